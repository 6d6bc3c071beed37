-- How a life is kept by each of its calls, and what is left where it ends.
use Rattle.std.proofs.Common.{◌≡◌, ℕ, ◌+◌, ◌-◌, ◌^◌, ◌%◌, min, true, List, [], ◌∷◌, ◌++◌, length, Option, Some, None, inl, inr, refl, sym, ◌∙◌, ap, subst, append-nil, append_assoc}
use Rattle.std.specs.Prelude.{IfSome, IfOk, Result, Ok, Err, option_map}
use Rattle.std.proofs.Math.Nat.{mod-add-mod}
use Rattle.std.proofs.lemmas.List.{length-append}
use Rattle.xa_types.specs.declared.data.Data.{Data}
use Rattle.xa_types.specs.declared.call.Rval.{Rval}
use Rattle.xa_types.specs.declared.call.Rval.TheVariants.{Success, Fail, Exit as ExitValue}
use Rattle.xa_link.specs.declared.link.Fate.{Fate}
use Rattle.xa_link.specs.declared.link.Fate.TheVariants as fates
use Rattle.xa_link.specs.Links.{Program, HasFate, IsFresh}
use Rattle.xa_types.specs.declared.reply.Reply.{Reply as Told}
use Rattle.xa_link.specs.Told.{Rose, Grew, GrewByPart}
use Rattle.xa_frame.specs.declared.frame.Frame.{Frame}
use Rattle.xa_frame.specs.declared.frame.Body.TheVariants.{Next}
use Rattle.xa_frame.specs.Spelling.{spelled, HasSpelling}
use Rattle.xa_events.specs.declared.event.StopCause.{StopCause}
use Rattle.xa_events.specs.declared.event.StopCause.TheVariants.{Shutdown, Exit, ReadFault, WriteFault, Starved}
use Rattle.xa_pipe.specs.declared.course.Course.{Course}
use Rattle.xa_pipe.specs.declared.hearing.Finish.TheVariants.{Returns, Forwards}
use Rattle.xa_pipe.specs.declared.turn.Turn.TheVariants.{AwaitsReady, AwaitsNext, AwaitsInvoke, Serving, Finishing, Performing, Exited}
use Rattle.xa_pipe.specs.declared.turn.Written.TheVariants.{Whole}
use Rattle.xa_pipe.specs.Frames.{ready_frame, next_frame, shutdown_frame, finish_frame, reply_frame}
use Rattle.xa_pipe.specs.Life.{Turn, Finish, Says, MaySay, IsFinish, EachReplied, Took, Gave, LinkShows, IsCounted, awaiting, is_reading, is_writing, may_end, tag_after, turn_behind, finishes_in}
use Rattle.xa_pipe.specs.Life.Says.{Silent, Named, Free, Invoked, Calls, Replied, CallsNoMore, Answers, Passes}
use Rattle.xa_pipe.specs.Pipe.{Piped, shown, invoke_frame, Wrote, HasRead, Ceases, CountsReads, CountsWrites}
use Rattle.xa_pipe.specs.Standing.{LifeState, IsSound, IsCutOff, IsOver, cut_short, GaveFirst, fate_by, tag_of, due_in}
use Rattle.xa_pipe.specs.Changes.{Heard, Greeted, Invoked as HasInvoked, turn_after, with_said, with_asked, next_invoke}
use Rattle.xa_pipe.specs.Kept.{standing_of, ending_of, fate_left, IsKept, tag_behind, unwritten}
use Rattle.xa_pipe.proofs.Frames.{told_more, read_same}
use Rattle.xa_pipe.proofs.Saying.{returned_is, finishes_append, finishes_next, finishes_op, finishes_push}
use Rattle.xa_pipe.proofs.Replying.{heard_replied, replies_so}
use Rattle.xa_pipe.proofs.Taking.{took_more, took_cut, took_missing}

-- ---- what the program says

says_again : {name : List ℕ} {n : ℕ} {frames : List Frame} {turn : Turn} → Says name n frames turn → Says name (length (finishes_in frames)) frames turn
says_again {name} {n} {frames} {turn} says = subst (λ (k : ℕ). Says name k frames turn) (returned_is says) says

not_ready : (value : Rval) → turn_behind value ≡ AwaitsReady → ⊥
not_ready Success e = cc e
not_ready Fail e = cc e
not_ready ExitValue e = cc e

-- before READY nothing was said
silent : {name : List ℕ} {n : ℕ} {frames : List Frame} {turn : Turn} → Says name n frames turn → turn ≡ AwaitsReady → frames ≡ []
silent Silent e = refl
silent (Named h) e = absurd (cc e)
silent (Free says) e = absurd (cc e)
silent (Invoked says) e = absurd (cc e)
silent (Calls op may says h) e = absurd (cc e)
silent (Replied says) e = absurd (cc e)
silent (CallsNoMore says) e = absurd (cc e)
silent (Answers value code payload says h) e = absurd (not_ready value e)
silent (Passes service payload says h) e = absurd (cc e)

-- the number of the next INVOKE is one more behind a RETURN and a FORWARD
finished_tag : (frames : List Frame) (tag : ℕ) (f : Frame) (back : Finish) → tag ≡ tag_after (length (finishes_in frames)) → f ≡ finish_frame tag back
    → (tag + 1) % 2 ^ 32 ≡ tag_after (length (finishes_in (frames ++ f ∷ [])))
finished_tag frames tag f back is said =
    let more : length (finishes_in (frames ++ f ∷ [])) ≡ length (finishes_in frames) + 1
    = ap (λ (g : Frame). length (finishes_in (frames ++ g ∷ []))) said ∙ (ap length (finishes_push frames tag back) ∙ length-append (finishes_in frames) (back ∷ [])) in
    (ap (λ (k : ℕ). (k + 1) % 2 ^ 32) is ∙ mod-add-mod (length (finishes_in frames) + 1) (2 ^ 32) 1) ∙ ap tag_after (sym more)

module _ (name : List ℕ) where
  finish_says : (n : ℕ) (frames : List Frame) (f : Frame) → Says name n frames Finishing → IsFinish (tag_after n) f → HasSpelling f
      → Says name (length (finishes_in (frames ++ f ∷ []))) (frames ++ f ∷ []) (turn_after Finishing f.body)
  finish_says n frames f says (inl (value, code, payload, is)) h =
      subst (λ (g : Frame). Says name (length (finishes_in (frames ++ g ∷ []))) (frames ++ g ∷ []) (turn_after Finishing g.body)) (sym is)
      (says_again (Answers value code payload says (subst HasSpelling is h)))
  finish_says n frames f says (inr (service, payload, is)) h =
      subst (λ (g : Frame). Says name (length (finishes_in (frames ++ g ∷ []))) (frames ++ g ∷ []) (turn_after Finishing g.body)) (sym is)
      (says_again (Passes service payload says (subst HasSpelling is h)))

  -- a service that is done goes on as one that may only be done
  finish_turn : (tag : ℕ) (f : Frame) → IsFinish tag f → turn_after Finishing f.body ≡ turn_after Serving f.body
  finish_turn tag f (inl (value, code, payload, is)) = ap (λ (g : Frame). turn_after Finishing g.body) is ∙ sym (ap (λ (g : Frame). turn_after Serving g.body) is)
  finish_turn tag f (inr (service, payload, is)) = ap (λ (g : Frame). turn_after Finishing g.body) is ∙ sym (ap (λ (g : Frame). turn_after Serving g.body) is)

  -- a frame that may come next is said in turn
  heard_says : (n : ℕ) (frames : List Frame) (turn : Turn) (f : Frame) → Says name n frames turn → MaySay name (tag_after n) turn f → HasSpelling f
      → Says name (length (finishes_in (frames ++ f ∷ []))) (frames ++ f ∷ []) (turn_after turn f.body)
  heard_says n frames AwaitsReady f says may h =
      subst (λ (g : Frame). Says name (length (finishes_in (frames ++ g ∷ []))) (frames ++ g ∷ []) AwaitsNext) (sym may)
      (subst (λ (fs : List Frame). Says name (length (finishes_in (fs ++ ready_frame name ∷ []))) (fs ++ ready_frame name ∷ []) AwaitsNext) (sym (silent says refl))
      (Named (subst HasSpelling may h)))
  heard_says n frames AwaitsNext f says may h = subst (λ (g : Frame). Says name (length (finishes_in (frames ++ g ∷ []))) (frames ++ g ∷ []) AwaitsInvoke) (sym may) (says_again (Free says))
  heard_says n frames Serving f says (inl finish) h =
      subst (λ (t : Turn). Says name (length (finishes_in (frames ++ f ∷ []))) (frames ++ f ∷ []) t) (finish_turn (tag_after n) f finish) (finish_says n frames f (CallsNoMore says) finish h)
  heard_says n frames Serving f says (inr (op, may, is)) h =
      subst (λ (g : Frame). Says name (length (finishes_in (frames ++ g ∷ []))) (frames ++ g ∷ []) (turn_after Serving g.body)) (sym is)
      (says_again (Calls op may says (subst HasSpelling is h)))
  heard_says n frames Finishing f says finish h = finish_says n frames f says finish h
  heard_says n frames AwaitsInvoke f says may h = absurd may
  heard_says n frames Performing f says may h = absurd may
  heard_says n frames Exited f says may h = absurd may

  finish_tag : (frames : List Frame) (tag : ℕ) (f : Frame) → tag ≡ tag_after (length (finishes_in frames)) → IsFinish tag f → tag_behind f.body tag ≡ tag_after (length (finishes_in (frames ++ f ∷ [])))
  finish_tag frames tag f is (inl (value, code, payload, said)) =
      ap (λ (g : Frame). tag_behind g.body tag) said ∙ finished_tag frames tag f (Returns (record { value = value; code = code; payload = payload })) is said
  finish_tag frames tag f is (inr (service, payload, said)) =
      ap (λ (g : Frame). tag_behind g.body tag) said ∙ finished_tag frames tag f (Forwards (record { service = service; payload = payload })) is said

  -- and the next number stays, or is one more behind a RETURN and a FORWARD
  heard_tag : (frames : List Frame) (turn : Turn) (tag : ℕ) (f : Frame) → tag ≡ tag_after (length (finishes_in frames)) → MaySay name tag turn f
      → tag_behind f.body tag ≡ tag_after (length (finishes_in (frames ++ f ∷ [])))
  heard_tag frames AwaitsReady tag f is may =
      ap (λ (g : Frame). tag_behind g.body tag) may
      ∙ (is ∙ ap tag_after (ap length (sym (append-nil (finishes_in frames)) ∙ (sym (finishes_append frames (ready_frame name ∷ [])) ∙ ap (λ (g : Frame). finishes_in (frames ++ g ∷ [])) (sym may)))))
  heard_tag frames AwaitsNext tag f is may =
      ap (λ (g : Frame). tag_behind g.body tag) may ∙ (is ∙ ap tag_after (ap length (sym (finishes_next frames) ∙ ap (λ (g : Frame). finishes_in (frames ++ g ∷ [])) (sym may))))
  heard_tag frames Serving tag f is (inl finish) = finish_tag frames tag f is finish
  heard_tag frames Serving tag f is (inr (op, may, said)) =
      ap (λ (g : Frame). tag_behind g.body tag) said ∙ (is ∙ ap tag_after (ap length (sym (finishes_op frames tag op) ∙ ap (λ (g : Frame). finishes_in (frames ++ g ∷ [])) (sym said))))
  heard_tag frames Finishing tag f is finish = finish_tag frames tag f is finish
  heard_tag frames AwaitsInvoke tag f is may = absurd may
  heard_tag frames Performing tag f is may = absurd may
  heard_tag frames Exited tag f is may = absurd may

-- READY, and NEXT behind it
pub greets : (old mid new : LifeState) (f : Frame) → old.turn ≡ AwaitsReady → Heard f mid old → Heard next_frame new mid → Greeted new old
greets old mid new f ready first next =
    let is : f ≡ ready_frame old.name = subst (λ (t : Turn). MaySay old.name (tag_of old) t f) ready first.may in
    let both : (old.said ++ f ∷ []) ++ next_frame ∷ [] ≡ old.said ++ ready_frame old.name ∷ next_frame ∷ []
    = ap (λ (g : Frame). (old.said ++ g ∷ []) ++ next_frame ∷ []) is ∙ append_assoc old.said (ready_frame old.name ∷ []) (next_frame ∷ []) in
    record {
      made = next.made ∙ (ap (λ (m : LifeState). with_said next_frame new.link m) first.made
          ∙ (ap (λ (t : Turn). record old { link = new.link; said = (old.said ++ f ∷ []) ++ next_frame ∷ []; turn = turn_after (turn_after t f.body) Next }) ready
          ∙ ap (λ (fs : List Frame). record old { link = new.link; said = fs; turn = AwaitsInvoke }) both));
      took = next.took ∙ first.took;
    }

-- a write changes what the link took, and may change what it still holds
link_written : (old new : LinkShows) → new.gave ≡ old.gave → new.reads ≡ old.reads → new.writes ≡ old.writes → new.program ≡ old.program → new ≡ record old { took = new.took; left = new.left }
link_written old new gave reads writes program =
    ap (λ (told : Option (List ℕ)). record new { gave = told }) gave
    ∙ (ap (λ (count : ℕ). record new { gave = old.gave; reads = count }) reads
    ∙ (ap (λ (count : ℕ). record new { gave = old.gave; reads = old.reads; writes = count }) writes
    ∙ ap (λ (its : Program). record new { gave = old.gave; reads = old.reads; writes = old.writes; program = its }) program))

-- what is known of a value, of which more follows
pub ok_more : {T E : Type 0} (result : Result T E) (is so : T → Type 0) → ((value : T) → is value → so value) → IfOk result is → IfOk result so
ok_more (Ok value) is so follows h = follows value h
ok_more (Err error) is so follows h = tt

-- ---- how it is kept

module _ {L : Type 0} where
  -- whose turn it is, as clauses see it
  pub in_turn : (c : Course L) (s : LifeState) (turn : Turn) → standing_of c ≡ s → s.turn ≡ turn → c.turn ≡ turn
  in_turn c s turn is at = ap (λ (x : LifeState). x.turn) is ∙ at

  pub kept_begun : (c : Course L) → c.asked ≡ [] → c.said ≡ [] → c.turn ≡ AwaitsReady → c.tag ≡ 1 → Wrote c.pipe [] → HasRead c.pipe []
      → IsFresh c.name c.generation (shown c.pipe) → IsKept c
  kept_begun c asked said turn tag wrote read fresh = record {
    sound = record {
      says = subst (λ (t : Turn). Says c.name (length (finishes_in c.said)) c.said t) (sym turn)
          (subst (λ (fs : List Frame). Says c.name (length (finishes_in fs)) fs AwaitsReady) (sym said) Silent);
      took = subst (λ (fs : List Frame). Wrote c.pipe fs) (sym asked) wrote;
      replied = subst (λ (t : Turn). EachReplied t c.said c.asked) (sym turn)
          (subst (λ (fs : List Frame). EachReplied AwaitsReady fs c.asked) (sym said) (subst (λ (fs : List Frame). EachReplied AwaitsReady [] fs) (sym asked) refl));
      gave = subst (λ (fs : List Frame). GaveFirst c.pipe.gave fs) (sym said) (told_more c.pipe.gave _ _ (λ octets e. (c.pipe.rest, e)) read.told);
      reads = fresh.reads;
      writes = fresh.writes;
      whose = fresh.whose;
      fate = fresh.runs;
    };
    read = subst (λ (fs : List Frame). HasRead c.pipe fs) (sym said) read;
    tag = tag ∙ ap (λ (fs : List Frame). tag_after (length (finishes_in fs))) (sym said);
  }

  -- with one more frame of its program
  pub kept_heard : (old mid new : Course L) (f : Frame) → mid ≡ record old { pipe = mid.pipe }
      → new ≡ record mid { said = mid.said ++ f ∷ []; turn = turn_after mid.turn f.body; tag = tag_behind f.body mid.tag }
      → IsKept old → MaySay old.name old.tag old.turn f → HasSpelling f → HasRead mid.pipe (old.said ++ f ∷ [])
      → mid.pipe.took ≡ old.pipe.took → mid.pipe.reads ≡ old.pipe.reads → mid.pipe.writes ≡ old.pipe.writes → mid.pipe.program ≡ old.pipe.program → IsKept new
  kept_heard old mid new f same noted kept may spelling read took reads writes program =
      subst IsKept (sym (noted ∙ ap (λ (m : Course L). record m { said = m.said ++ f ∷ []; turn = turn_after m.turn f.body; tag = tag_behind f.body m.tag }) same)) (record {
        sound = record {
          says = heard_says old.name _ old.said old.turn f kept.sound.says (subst (λ (tag : ℕ). MaySay old.name tag old.turn f) kept.tag may) spelling;
          took = subst (λ (told : Option (List ℕ)). IfSome told (Took Whole old.asked)) (sym took) kept.sound.took;
          replied = heard_replied old.name old.tag old.said old.asked old.turn f may kept.sound.replied;
          gave = told_more mid.pipe.gave _ _ (λ octets e. (mid.pipe.rest, e)) read.told;
          reads = reads ∙ kept.sound.reads;
          writes = writes ∙ kept.sound.writes;
          whose = ap (λ (p : Program). p.whose) program ∙ kept.sound.whose;
          fate = subst (HasFate fates.Running) (sym program) kept.sound.fate;
        };
        read = read;
        tag = heard_tag old.name old.said old.turn old.tag f kept.tag may;
      })

  -- with one more INVOKE or REPLY
  pub kept_invoked : (old new : Course L) (f : Frame) → Says old.name (length (finishes_in old.said)) old.said Serving → EachReplied Serving old.said (old.asked ++ f ∷ [])
      → new ≡ record old { pipe = new.pipe; asked = old.asked ++ f ∷ []; turn = Serving } → IsKept old
      → Grew old.pipe.took new.pipe.took (spelled f) → new.pipe.gave ≡ old.pipe.gave → new.pipe.rest ≡ old.pipe.rest → new.pipe.place ≡ old.pipe.place
      → new.pipe.reads ≡ old.pipe.reads → new.pipe.writes ≡ old.pipe.writes → new.pipe.program ≡ old.pipe.program → IsKept new
  kept_invoked old new f says replied made kept took gave rest place reads writes program =
      let read = read_same old.pipe new.pipe old.said gave rest place kept.read in
      subst IsKept (sym made) (record {
        sound = record {
          says = says;
          took = took_more old.pipe.took new.pipe.took old.asked f kept.sound.took took;
          replied = replied;
          gave = told_more new.pipe.gave _ _ (λ octets e. (new.pipe.rest, e)) read.told;
          reads = reads ∙ kept.sound.reads;
          writes = writes ∙ kept.sound.writes;
          whose = ap (λ (p : Program). p.whose) program ∙ kept.sound.whose;
          fate = subst (HasFate fates.Running) (sym program) kept.sound.fate;
        };
        read = read;
        tag = kept.tag;
      })

  -- behind a call that was made the service goes on, with its REPLY
  pub said_so : (old : Course L) → old.turn ≡ Performing → IsKept old → Says old.name (length (finishes_in old.said)) old.said Serving
  said_so old calls kept = Replied (subst (λ (t : Turn). Says old.name (length (finishes_in old.said)) old.said t) calls kept.sound.says)

  pub replied_so : (old : Course L) (reply : Told) → old.turn ≡ Performing → IsKept old → EachReplied Serving old.said (old.asked ++ reply_frame old.tag reply ∷ [])
  replied_so old reply calls kept =
      subst (λ (tag : ℕ). EachReplied Serving old.said (old.asked ++ reply_frame tag reply ∷ [])) (sym kept.tag)
      (replies_so old.said old.asked reply (subst (λ (t : Turn). Says old.name (length (finishes_in old.said)) old.said t) calls kept.sound.says)
      (subst (λ (t : Turn). EachReplied t old.said old.asked) calls kept.sound.replied))

  -- with no call to come any more
  pub kept_spent : (old new : Course L) → old.turn ≡ Serving → new ≡ record old { turn = Finishing } → IsKept old → IsKept new
  kept_spent old new serving made kept =
      subst IsKept (sym made) (record {
        sound = record {
          says = CallsNoMore (subst (λ (t : Turn). Says old.name (length (finishes_in old.said)) old.said t) serving kept.sound.says);
          took = kept.sound.took;
          replied = subst (λ (t : Turn). EachReplied t old.said old.asked) serving kept.sound.replied;
          gave = kept.sound.gave;
          reads = kept.sound.reads;
          writes = kept.sound.writes;
          whose = kept.sound.whose;
          fate = kept.sound.fate;
        };
        read = kept.read;
        tag = kept.tag;
      })

  -- the frame was written
  wrote_it : (old new : Course L) (f : ℕ → Frame) → new ≡ record old { pipe = new.pipe; asked = old.asked ++ f old.tag ∷ []; turn = Serving }
      → IsKept old → Grew old.pipe.took new.pipe.took (spelled (f old.tag)) → new.pipe.gave ≡ old.pipe.gave
      → new.pipe.reads ≡ old.pipe.reads → new.pipe.writes ≡ old.pipe.writes → new.pipe.program ≡ old.pipe.program
      → HasInvoked (f (tag_of (standing_of old))) (standing_of new) (standing_of old)
  wrote_it old new f made kept took gave reads writes program = record {
    made = ap standing_of made
        ∙ (ap (λ (tag : ℕ). with_asked (f tag) (shown new.pipe) (standing_of old)) kept.tag
        ∙ ap (λ (l : LinkShows). with_asked (f (tag_of (standing_of old))) l (standing_of old)) (link_written (shown old.pipe) (shown new.pipe) gave reads writes program));
    took = subst (λ (tag : ℕ). Grew old.pipe.took new.pipe.took (spelled (f tag))) kept.tag took;
  }

  pub invokes : (old new : Course L) (service routine : List ℕ) (payload : Data) → new ≡ record old { pipe = new.pipe; asked = old.asked ++ invoke_frame service routine old.tag payload ∷ []; turn = Serving }
      → IsKept old → Grew old.pipe.took new.pipe.took (spelled (invoke_frame service routine old.tag payload)) → new.pipe.gave ≡ old.pipe.gave
      → new.pipe.reads ≡ old.pipe.reads → new.pipe.writes ≡ old.pipe.writes → new.pipe.program ≡ old.pipe.program
      → HasInvoked (next_invoke service routine payload (standing_of old)) (standing_of new) (standing_of old)
  invokes old new service routine payload = wrote_it old new (λ tag. invoke_frame service routine tag payload)

  pub replies : (old new : Course L) (reply : Told) → new ≡ record old { pipe = new.pipe; asked = old.asked ++ reply_frame old.tag reply ∷ []; turn = Serving }
      → IsKept old → Grew old.pipe.took new.pipe.took (spelled (reply_frame old.tag reply)) → new.pipe.gave ≡ old.pipe.gave
      → new.pipe.reads ≡ old.pipe.reads → new.pipe.writes ≡ old.pipe.writes → new.pipe.program ≡ old.pipe.program
      → HasInvoked (reply_frame (tag_of (standing_of old)) reply) (standing_of new) (standing_of old)
  replies old new reply = wrote_it old new (λ tag. reply_frame tag reply)

-- ---- how it ends

once : (before now : ℕ) → Rose before now → before ≡ 0 → now ≡ 1
once before now rose none = subst (λ (n : ℕ). now ≡ min (n + 1) (2 ^ 64 - 1)) none rose

-- the link took no more than a front of the last frame that was due
took_unwritten : (cause : StopCause) (before after : Piped) (asked : List Frame) (f : Frame) → CountsWrites cause before.writes after.writes → IfSome before.took (Took Whole asked)
    → (cause ≡ WriteFault → GrewByPart before.took after.took (spelled f)) → (cause ≡ Starved → after.took ≡ before.took) → IfSome after.took (Took (unwritten cause) (asked ++ f ∷ []))
took_unwritten WriteFault before after asked f counts wrote part starved = took_cut before.took after.took asked f wrote (part refl)
took_unwritten Starved before after asked f counts wrote part starved = took_missing before.took after.took asked f wrote (starved refl)
took_unwritten cause before after asked f counts wrote part starved = absurd counts

may_unwritten : (cause : StopCause) (turn : Turn) (before after : ℕ) → CountsWrites cause before after → is_writing turn ≡ true → may_end cause turn (unwritten cause) ≡ true
may_unwritten WriteFault turn before after counts writing = writing
may_unwritten Starved turn before after counts writing = writing
may_unwritten cause turn before after counts writing = absurd counts

counted_unwritten : (cause : StopCause) (reads before after : ℕ) → CountsWrites cause before after → reads ≡ 0 → before ≡ 0 → IsCounted cause reads after
counted_unwritten WriteFault reads before after counts well none = (well, once before after counts none)
counted_unwritten Starved reads before after counts well none = (well, counts ∙ none)
counted_unwritten cause reads before after counts well none = absurd counts

gave_unwritten : (cause : StopCause) (name : List ℕ) (tag : ℕ) (turn : Turn) (pipe : Piped) (frames : List Frame) (before : ℕ) → CountsWrites cause before pipe.writes → HasRead pipe frames
    → Gave (record { name = name; tag = tag; frames = frames; turn = turn; written = unwritten cause }) cause pipe.gave pipe.left
gave_unwritten WriteFault name tag turn pipe frames before counts read = told_more pipe.gave _ _ (λ octets e. (pipe.rest, e, tt)) read.told
gave_unwritten Starved name tag turn pipe frames before counts read = told_more pipe.gave _ _ (λ octets e. (pipe.rest, e, (λ whole reading. cc whole))) read.told
gave_unwritten cause name tag turn pipe frames before counts read = absurd counts

counted_reads : (cause : StopCause) (before after writes : ℕ) → CountsReads cause before after → before ≡ 0 → writes ≡ 0 → IsCounted cause after writes
counted_reads ReadFault before after writes counts none well = (once before after counts none, well)
counted_reads WriteFault before after writes counts none well = absurd counts
counted_reads Shutdown before after writes counts none well = absurd counts
counted_reads Exit before after writes counts none well = absurd counts
counted_reads cause before after writes counts none well = (counts ∙ none, well)

due_reading : (turn : Turn) (asked : List Frame) → is_reading turn ≡ true → due_in turn asked ≡ asked
due_reading AwaitsInvoke asked reading = cc reading
due_reading turn asked reading = refl

-- what becomes of a program that runs
fate_is : (cause : StopCause) (told : Option Fate) → IfSome told (λ fate. fate ≡ fates.Running) → IfSome (fate_left cause told) (λ fate. fate ≡ fate_by cause)
fate_is Shutdown told runs = runs
fate_is Exit None runs = tt
fate_is Exit (Some fate) runs = refl
fate_is cause None runs = tt
fate_is cause (Some fate) runs = refl

module _ {L : Type 0} where
  -- as a frame was to be written
  pub unsent_over : (old new : Course L) (turn : Turn) (asked : List Frame) (f : Frame) (cause : StopCause) → new ≡ record old { pipe = new.pipe; asked = asked; turn = turn }
      → due_in turn asked ≡ old.asked ++ f ∷ [] → is_writing turn ≡ true → Says old.name (length (finishes_in old.said)) old.said turn → EachReplied turn old.said asked → IsKept old
      → CountsWrites cause old.pipe.writes new.pipe.writes → (cause ≡ WriteFault → GrewByPart old.pipe.took new.pipe.took (spelled f)) → (cause ≡ Starved → new.pipe.took ≡ old.pipe.took)
      → new.pipe.gave ≡ old.pipe.gave → new.pipe.rest ≡ old.pipe.rest → new.pipe.place ≡ old.pipe.place → new.pipe.reads ≡ old.pipe.reads → new.pipe.program ≡ old.pipe.program
      → IsOver (ending_of new cause (unwritten cause))
  unsent_over old new turn asked f cause made due writing says replied kept counts part starved gave rest place reads program =
      subst (λ (c : Course L). IsOver (ending_of c cause (unwritten cause))) (sym made) (record {
        says = says;
        may = may_unwritten cause turn old.pipe.writes new.pipe.writes counts writing;
        took = subst (λ (fs : List Frame). IfSome new.pipe.took (Took (unwritten cause) fs)) (sym due) (took_unwritten cause old.pipe new.pipe old.asked f counts kept.sound.took part starved);
        replied = replied;
        gave = gave_unwritten cause old.name _ turn new.pipe old.said old.pipe.writes counts (read_same old.pipe new.pipe old.said gave rest place kept.read);
        counted = counted_unwritten cause new.pipe.reads old.pipe.writes new.pipe.writes counts (reads ∙ kept.sound.reads) kept.sound.writes;
        whose = ap (λ (p : Program). p.whose) program ∙ kept.sound.whose;
        killed = refl;
        left_open = refl;
        fate = fate_is cause new.pipe.program.fate (subst (HasFate fates.Running) (sym program) kept.sound.fate);
      })

  -- by SHUTDOWN
  pub shut_over : (old new : Course L) → new ≡ record old { pipe = new.pipe } → old.turn ≡ AwaitsInvoke → IsKept old → Grew old.pipe.took new.pipe.took (spelled shutdown_frame)
      → new.pipe.gave ≡ old.pipe.gave → new.pipe.rest ≡ old.pipe.rest → new.pipe.place ≡ old.pipe.place → new.pipe.reads ≡ old.pipe.reads → new.pipe.writes ≡ old.pipe.writes
      → new.pipe.program ≡ old.pipe.program → IsOver (ending_of new Shutdown Whole)
  shut_over old new made idle kept took gave rest place reads writes program =
      subst (λ (c : Course L). IsOver (ending_of c Shutdown Whole)) (sym made) (record {
        says = kept.sound.says;
        may = ap (λ (t : Turn). may_end Shutdown t Whole) idle;
        replied = kept.sound.replied;
        took = subst (λ (t : Turn). IfSome new.pipe.took (Took Whole (due_in t old.asked))) (sym idle) (took_more old.pipe.took new.pipe.took old.asked shutdown_frame kept.sound.took took);
        gave = told_more new.pipe.gave _ _ (λ octets e. (new.pipe.rest, e, tt)) (read_same old.pipe new.pipe old.said gave rest place kept.read).told;
        counted = (reads ∙ kept.sound.reads, writes ∙ kept.sound.writes);
        whose = ap (λ (p : Program). p.whose) program ∙ kept.sound.whose;
        killed = refl;
        left_open = refl;
        fate = fate_is Shutdown new.pipe.program.fate (subst (HasFate fates.Running) (sym program) kept.sound.fate);
      })

  -- as a frame of its program was to come
  pub fallen_over : (old new : Course L) (cause : StopCause) → new ≡ record old { pipe = new.pipe } → is_reading old.turn ≡ true → IsKept old
      → Ceases (awaiting old.name old.tag old.said old.turn) new.pipe cause → new.pipe.took ≡ old.pipe.took → CountsReads cause old.pipe.reads new.pipe.reads → new.pipe.writes ≡ old.pipe.writes
      → new.pipe.program ≡ old.pipe.program → IsOver (ending_of new cause Whole)
  fallen_over old new cause made reading kept ceases took counts writes program =
      subst (λ (c : Course L). IsOver (ending_of c cause Whole)) (sym made) (record {
        says = kept.sound.says;
        may = ceases.may;
        took = subst (λ (fs : List Frame). IfSome new.pipe.took (Took Whole fs)) (sym (due_reading old.turn old.asked reading))
            (subst (λ (told : Option (List ℕ)). IfSome told (Took Whole old.asked)) (sym took) kept.sound.took);
        replied = kept.sound.replied;
        gave = subst (λ (tag : ℕ). Gave (awaiting old.name tag old.said old.turn) cause new.pipe.gave new.pipe.left) kept.tag ceases.gave;
        counted = counted_reads cause old.pipe.reads new.pipe.reads new.pipe.writes counts kept.sound.reads (writes ∙ kept.sound.writes);
        whose = ap (λ (p : Program). p.whose) program ∙ kept.sound.whose;
        killed = refl;
        left_open = refl;
        fate = fate_is cause new.pipe.program.fate (subst (HasFate fates.Running) (sym program) kept.sound.fate);
      })

  -- for want of memory, as a call was to be made
  pub starved_over : (old : Course L) → old.turn ≡ Performing → IsKept old → IsOver (ending_of old Starved Whole)
  starved_over old calls kept = record {
    says = kept.sound.says;
    may = ap (λ (t : Turn). may_end Starved t Whole) calls;
    took = subst (λ (t : Turn). IfSome old.pipe.took (Took Whole (due_in t old.asked))) (sym calls) kept.sound.took;
    replied = kept.sound.replied;
    gave = told_more old.pipe.gave _ _ (λ octets e. (old.pipe.rest, e, (λ whole reading. absurd (cc (subst (λ (t : Turn). is_reading t ≡ true) calls reading))))) kept.read.told;
    counted = (kept.sound.reads, kept.sound.writes);
    whose = kept.sound.whose;
    killed = refl;
    left_open = refl;
    fate = fate_is Starved old.pipe.program.fate kept.sound.fate;
  }

  -- by TPEXIT
  pub exited_over : (c : Course L) → c.turn ≡ Exited → IsKept c → IsOver (ending_of c Exit Whole)
  exited_over c exited kept = record {
    says = kept.sound.says;
    may = ap (λ (t : Turn). may_end Exit t Whole) exited;
    took = subst (λ (t : Turn). IfSome c.pipe.took (Took Whole (due_in t c.asked))) (sym exited) kept.sound.took;
    replied = kept.sound.replied;
    gave = told_more c.pipe.gave _ _ (λ octets e. (c.pipe.rest, e, tt)) kept.read.told;
    counted = (kept.sound.reads, kept.sound.writes);
    whose = kept.sound.whose;
    killed = refl;
    left_open = refl;
    fate = fate_is Exit c.pipe.program.fate kept.sound.fate;
  }

-- and where it is cut
pub cut_sound : (life : LifeState) → IsSound life → IsCutOff (cut_short life)
cut_sound life sound = record {
  says = sound.says;
  took = sound.took;
  replied = sound.replied;
  gave = sound.gave;
  reads = sound.reads;
  writes = sound.writes;
  whose = sound.whose;
  fate = cut_fate life.link.program.fate;
}
  where
    cut_fate : (told : Option Fate) → IfSome (option_map (λ _. fates.Killed) told) (λ fate. fate ≡ fates.Killed)
    cut_fate None = tt
    cut_fate (Some fate) = refl
