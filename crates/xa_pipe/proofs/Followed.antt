-- How a worker carries the events of a life beside what it does: a step for each, and what they come to in a run.
use Rattle.std.proofs.Common.{◌≡◌, ℕ, ◌+◌, ◌==◌, Bool, true, false, List, [], ◌∷◌, ◌++◌, length, Some, refl, sym, ◌∙◌, ap, subst, append-nil, arith}
use Rattle.std.specs.Prelude.{cond, drop, map, Option, None, if◌then◌else◌}
use Rattle.std.specs.List.{All, filter}
use Rattle.std.proofs.lemmas.Bool.{and_parts}
use Rattle.std.proofs.lemmas.List.{length-append, map-append}
use Rattle.std.proofs.lemmas.List.Elements.{All-head, All-tail, filter-append}
use Rattle.xa_types.specs.declared.setup.Setup.{Setup}
use Rattle.xa_types.specs.declared.data.Data.{Data}
use Rattle.xa_types.specs.declared.ids.ServerId.{ServerId}
use Rattle.xa_link.specs.Links.{closed}
use Rattle.xa_types.specs.declared.ids.Generation.{Generation}
use Rattle.xa_types.specs.declared.reply.Reply.{Reply as Told}
use Rattle.xa_types.specs.declared.call.Op.{Op}
use Rattle.xa_frame.specs.declared.frame.Frame.{Frame}
use Rattle.xa_events.specs.declared.event.Event.{Event}
use Rattle.xa_events.specs.declared.event.Event.TheVariants.{Take, Forward, End, Stop}
use Rattle.xa_events.specs.declared.event.Taken.{Taken}
use Rattle.xa_events.specs.declared.event.Ended.{Ended}
use Rattle.xa_events.specs.declared.event.Forwarded.{Forwarded}
use Rattle.xa_events.specs.declared.event.Stopped.{Stopped}
use Rattle.xa_events.specs.declared.event.StopCause.{StopCause}
use Rattle.xa_events.specs.Words.{count, latest, from_each, AtEach}
use Rattle.xa_events.specs.State.{caller_of}
use Rattle.xa_events.specs.Server.{doing, doing_after, after_end, moves_server}
use Rattle.xa_events.specs.declared.event.Outcome.{Outcome}
use Rattle.xa_events.specs.declared.event.Outcome.TheVariants.{Returned, Failed, BadReturn, BadForward, Died, Starved}
use Rattle.xa_events.specs.Caller.{is_call_of}
use Rattle.xa_events.specs.Said.{is_op, reply_at}
use Rattle.xa_pipe.specs.declared.hearing.Finish.TheVariants.{Returns, Forwards}
use Rattle.xa_pipe.specs.declared.turn.Turn.TheVariants.{AwaitsInvoke, Serving, Performing, Exited}
use Rattle.xa_pipe.specs.Frames.{is_of_life, is_take_in, is_busy_in, is_invoke_body, invokes_in, invocation, replied_at, written_at, ready_frame, next_frame, finish_frame, op_frame, reply_frame, farewell, frames_out}
use Rattle.xa_pipe.specs.Life.{Turn, Finish, LinkShows, Occurrence, Reasons, MayFail, EachCame, AllCame, CameBy, is_held, EndsAs, ComesTo, stops_life, cause_of, cause_in, came_at, came_in, finishes_in, lost_by}
use Rattle.xa_pipe.specs.Standing.{LifeState, Ending, IsOver, IsLife, tag_of, invokes_of}
use Rattle.xa_pipe.specs.Changes.{begun, spent, Heard, Fell, Greeted, Invoked, Unsent, Starves, ShutDown, Exits}
use Rattle.xa_pipe.specs.Following.{is_of, AreCall, shape, due_at as due_by, due_in_life, Follows, Settled, EndsLast, HasStopped, IsSent, IsBorneOut, StandsIn}
use Rattle.xa_pipe.proofs.Coming.{came_end, came_forward, came_push}
use Rattle.xa_pipe.proofs.Saying.{finishes_append, finishes_next, finishes_op, finishes_push}
use Rattle.xa_pipe.proofs.Dues.{call_of_none, call_takes_none, call_counts_none, call_keeps, due_idle, due_unmoved, due_take, due_calls, due_among, none_counted, fill, refill, fill_some, fill_one, fills}

-- ---- events that are none of the life's

one_more : (n : ℕ) → n + 1 ≡ 0 → ⊥
one_more n none = absurd (omega (arith, none))

module _ (server g : ℕ) where
  comes_none : (e : Event) (past : List Event) → is_of server g e ≡ false → came_at server g e past ≡ []
  comes_none (End e) past other = rw other refl
  comes_none (Forward f) past other = rw other refl
  comes_none e past other = refl

  takes_none : (e : Event) → is_of server g e ≡ false → is_take_in server g e ≡ false
  takes_none (Take t) other = other
  takes_none e other = refl

  stops_none : (e : Event) → is_of server g e ≡ false → stops_life server g e ≡ false
  stops_none (Stop x) other = other
  stops_none e other = refl

  came_idle : (e : Event) (own : List Event) → is_of server g e ≡ false → came_in server g (e ∷ own) ≡ came_in server g own
  came_idle e own other = ap (λ (os : List Occurrence). came_in server g own ++ os) (comes_none e own other) ∙ append-nil (came_in server g own)

  taken_idle : (e : Event) (own : List Event) → is_of server g e ≡ false → count (is_take_in server g) (e ∷ own) ≡ count (is_take_in server g) own
  taken_idle e own other = rw (takes_none e other) refl

  ends_idle : (e : Event) (own : List Event) → is_of server g e ≡ false → count (stops_life server g) (e ∷ own) ≡ count (stops_life server g) own
  ends_idle e own other = rw (stops_none e other) refl

  -- what no event of another life changes they all leave
  beside_same : {X : Type 0} (read : List Event → X) → ((e : Event) (past : List Event) → is_of server g e ≡ false → read (e ∷ past) ≡ read past) → (more own : List Event) → All (λ (e : Event). is_of server g e ≡ false) more
      → read (more ++ own) ≡ read own
  beside_same read same [] own others = refl
  beside_same read same (e ∷ more) own others =
      same e (more ++ own) (All-head (λ (x : Event). is_of server g x ≡ false) e more others) ∙ beside_same read same more own (All-tail (λ (x : Event). is_of server g x ≡ false) e more others)

  cause_idle : (e : Event) (own : List Event) → is_of server g e ≡ false → cause_of server g (e ∷ own) ≡ cause_of server g own
  cause_idle e own other = rw (stops_none e other) refl

  -- what passes a test that passes the life's events alone is counted among those
  count_own : (p : Event → Bool) → ((e : Event) → is_of server g e ≡ false → p e ≡ false) → (past : List Event) → count p past ≡ count p (filter (is_of server g) past)
  count_own p none [] = refl
  count_own p none (e ∷ past) = by_one (is_of server g e) refl (count_own p none past)
    where
      by_one : (b : Bool) → is_of server g e ≡ b → count p past ≡ count p (filter (is_of server g) past)
          → count p (e ∷ past) ≡ count p (cond b (e ∷ filter (is_of server g) past) (filter (is_of server g) past))
      by_one true is same = ap (λ (n : ℕ). cond (p e) (n + 1) n) same
      by_one false is same = rw (none e is) same

  taken_more : (t : Taken) (own : List Event) (asked : List Frame) (f : Frame) → is_of_life server g t.server.0 t.generation.0 ≡ true → is_invoke_body f.body ≡ true
      → count (is_take_in server g) own ≡ length (invokes_in asked) → count (is_take_in server g) (Take t ∷ own) ≡ length (invokes_in (asked ++ f ∷ []))
  taken_more t own asked f its invokes taken =
      rw its (ap (λ (n : ℕ). n + 1) taken ∙ (sym (length-append (invokes_in asked) (f ∷ []))
      ∙ ap length (ap (λ (fs : List Frame). invokes_in asked ++ fs) (rw invokes refl) ∙ sym (filter-append (λ (h : Frame). is_invoke_body h.body) asked (f ∷ [])))))

-- an INVOKE may be any, and another frame is as it is
shape_push : (asked : List Frame) (f : Frame) → shape (asked ++ f ∷ []) ≡ shape asked ++ (if is_invoke_body f.body then None else Some f) ∷ []
shape_push asked f = map-append (λ (h : Frame). if is_invoke_body h.body then None else Some h) asked (f ∷ [])

pub no_invoke : (asked : List Frame) (f : Frame) → is_invoke_body f.body ≡ false → invokes_in (asked ++ f ∷ []) ≡ invokes_in asked
no_invoke asked f other = filter-append (λ (h : Frame). is_invoke_body h.body) asked (f ∷ []) ∙ (ap (λ (fs : List Frame). invokes_in asked ++ fs) (rw other refl) ∙ append-nil (invokes_in asked))

module _ (setup : Setup) (Why : Reasons) where
  came_by : (old : LifeState) (own : List Event) (back : Finish) (tag : ℕ) (last : Occurrence) (came : List Occurrence) → came ≡ came_in old.server.0 old.generation.0 own ++ last ∷ []
      → ComesTo setup Why back last → EachCame setup Why (finishes_in old.said) (came_in old.server.0 old.generation.0 own) → EachCame setup Why (finishes_in (old.said ++ finish_frame tag back ∷ [])) came
  came_by old own back tag last came is comes each =
      subst (λ (os : List Occurrence). EachCame setup Why (finishes_in (old.said ++ finish_frame tag back ∷ [])) os) (sym is)
      (subst (λ (rs : List Finish). EachCame setup Why rs (came_in old.server.0 old.generation.0 own ++ last ∷ [])) (sym (finishes_push old.said tag back))
      (came_push setup Why (finishes_in old.said) (came_in old.server.0 old.generation.0 own) back last each comes))

  none_lost : (cause : StopCause) (turn : Turn) (finishes : List Finish) (came : List Occurrence) → is_held turn ≡ false → EachCame setup Why finishes came → AllCame setup Why cause turn finishes came
  none_lost cause turn finishes came free each = subst (λ (held : Bool). CameBy held setup Why cause finishes came) (sym free) each

module _ (clients : ℕ) where
  -- a request was taken, and the life has its INVOKE as the last frame that was due
  take_asked : (old : LifeState) (asked : List Frame) (own : List Event) (t : Taken) (f : Frame) → asked ≡ old.asked ++ f ∷ [] → is_of_life old.server.0 old.generation.0 t.server.0 t.generation.0 ≡ true
      → is_invoke_body f.body ≡ true → due_in_life clients old.server.0 old.generation.0 own ≡ shape old.asked → due_in_life clients old.server.0 old.generation.0 (Take t ∷ own) ≡ shape asked
  take_asked old asked own t f are its invokes told =
      due_take clients old.server.0 old.generation.0 t own its ∙ (ap (λ (fs : List (Option Frame)). fs ++ None ∷ []) told
      ∙ sym (ap shape are ∙ (shape_push old.asked f ∙ ap (λ (b : Bool). shape old.asked ++ (if b then None else Some f) ∷ []) invokes)))

  -- a new call was made in the life, and what was told of it is due
  pub call_asked : (old : LifeState) (n : ℕ) (more own : List Event) → AreCall (caller_of clients old.server.0) n more → count (is_op (caller_of clients old.server.0) n) own ≡ 0
      → is_busy_in old.generation.0 (doing old.server.0 own) ≡ true → invocation old.server.0 old.generation.0 own ≡ tag_of old
      → due_in_life clients old.server.0 old.generation.0 own ≡ shape old.asked
      → due_in_life clients old.server.0 old.generation.0 (more ++ own) ≡ shape (old.asked ++ reply_frame (tag_of old) (reply_at (more ++ own) (caller_of clients old.server.0) n) ∷ [])
  call_asked old n more own are new busy tag told =
      let reply = reply_at (more ++ own) (caller_of clients old.server.0) n in
      let due = due_in_life clients old.server.0 old.generation.0 own in
      due_calls clients old.server.0 old.generation.0 n more own are new
      ∙ (ap (λ (b : Bool). due ++ (if b then Some (reply_frame (invocation old.server.0 old.generation.0 own) reply) ∷ [] else [])) busy
      ∙ (ap (λ (k : ℕ). due ++ Some (reply_frame k reply) ∷ []) tag
      ∙ (ap (λ (fs : List (Option Frame)). fs ++ Some (reply_frame (tag_of old) reply) ∷ []) told ∙ sym (shape_push old.asked (reply_frame (tag_of old) reply)))))

module _ (setup : Setup) (clients : ℕ) {Why : Reasons} where
  -- an event that is none of the life's, and of no call, changes nothing
  pub follows_idle : (life : LifeState) (e : Event) (own : List Event) → is_of life.server.0 life.generation.0 e ≡ false → is_call_of (caller_of clients life.server.0) e ≡ false
      → Follows setup clients Why life own → Follows setup clients Why life (e ∷ own)
  follows_idle life e own other idle old = record {
    alive = ends_idle life.server.0 life.generation.0 e own other ∙ old.alive;
    taken = taken_idle life.server.0 life.generation.0 e own other ∙ old.taken;
    told = due_idle clients life.server.0 life.generation.0 e own other idle ∙ old.told;
    came = subst (λ (os : List Occurrence). EachCame setup Why (finishes_in life.said) os) (sym (came_idle life.server.0 life.generation.0 e own other)) old.came;
  }

  pub settled_idle : (over : Ending) (e : Event) (own : List Event) → is_of over.life.server.0 over.life.generation.0 e ≡ false → is_call_of (caller_of clients over.life.server.0) e ≡ false
      → Settled setup clients Why over own → Settled setup clients Why over (e ∷ own)
  settled_idle over e own other idle old = record {
    alive = ends_idle over.life.server.0 over.life.generation.0 e own other ∙ old.alive;
    taken = taken_idle over.life.server.0 over.life.generation.0 e own other ∙ old.taken;
    told = due_idle clients over.life.server.0 over.life.generation.0 e own other idle ∙ old.told;
    came = subst (λ (os : List Occurrence). AllCame setup Why over.cause over.life.turn (finishes_in over.life.said) os) (sym (came_idle over.life.server.0 over.life.generation.0 e own other)) old.came;
  }

  pub stopped_idle : (over : Ending) (e : Event) (own : List Event) → is_of over.life.server.0 over.life.generation.0 e ≡ false → is_call_of (caller_of clients over.life.server.0) e ≡ false
      → HasStopped setup clients Why over own → HasStopped setup clients Why over (e ∷ own)
  stopped_idle over e own other idle old = record {
    taken = taken_idle over.life.server.0 over.life.generation.0 e own other ∙ old.taken;
    told = due_idle clients over.life.server.0 over.life.generation.0 e own other idle ∙ old.told;
    came = subst (λ (os : List Occurrence). AllCame setup Why over.cause over.life.turn (finishes_in over.life.said) os) (sym (came_idle over.life.server.0 over.life.generation.0 e own other)) old.came;
    stopped = cause_idle over.life.server.0 over.life.generation.0 e own other ∙ old.stopped;
    last = rw other old.last;
  }

  -- nor do events of other lives that tell nothing in it
  pub stopped_beside : (over : Ending) (more own : List Event) → All (λ (e : Event). is_of over.life.server.0 over.life.generation.0 e ≡ false) more
      → due_in_life clients over.life.server.0 over.life.generation.0 (more ++ own) ≡ due_in_life clients over.life.server.0 over.life.generation.0 own → HasStopped setup clients Why over own → HasStopped setup clients Why over (more ++ own)
  stopped_beside over more own others due old =
      let server = over.life.server.0 in
      let g = over.life.generation.0 in
      record {
        taken = beside_same server g (count (is_take_in server g)) (λ e past other. taken_idle server g e past other) more own others ∙ old.taken;
        told = due ∙ old.told;
        came = subst (λ (os : List Occurrence). AllCame setup Why over.cause over.life.turn (finishes_in over.life.said) os)
            (sym (beside_same server g (came_in server g) (λ e past other. came_idle server g e past other) more own others)) old.came;
        stopped = beside_same server g (cause_of server g) (λ e past other. cause_idle server g e past other) more own others ∙ old.stopped;
        last = subst (EndsLast server g) (sym (beside_same server g (filter (is_of server g)) (λ e past other. rw other refl) more own others)) old.last;
      }

  -- ---- while the life goes on

  -- a life of which nothing was noted begins
  pub follows_begun : (name : List ℕ) (server : ServerId) (g : Generation) (link : LinkShows) (own : List Event) → count (stops_life server.0 g.0) own ≡ 0 → count (is_take_in server.0 g.0) own ≡ 0
      → due_in_life clients server.0 g.0 own ≡ [] → came_in server.0 g.0 own ≡ [] → Follows setup clients Why (begun name server g link) own
  follows_begun name server g link own unstopped none untold nothing = record {
    alive = unstopped;
    taken = none;
    told = untold;
    came = subst (λ (os : List Occurrence). EachCame setup Why [] os) (sym nothing) tt;
  }

  same_finishes : (old new : LifeState) (own : List Event) (link : LinkShows) (said : List Frame) (turn : Turn) → new ≡ record old { link = link; said = said; turn = turn }
      → finishes_in said ≡ finishes_in old.said → Follows setup clients Why old own → Follows setup clients Why new own
  same_finishes old new own link said turn made none follows = subst (λ (s : LifeState). Follows setup clients Why s own) (sym made) (record {
    alive = follows.alive;
    taken = follows.taken;
    told = follows.told;
    came = subst (λ (rs : List Finish). EachCame setup Why rs (came_in old.server.0 old.generation.0 own)) (sym none) follows.came;
  })

  -- its program greeted
  pub follows_greeted : (old new : LifeState) (own : List Event) → Greeted new old → Follows setup clients Why old own → Follows setup clients Why new own
  follows_greeted old new own greeted follows =
      same_finishes old new own new.link _ AwaitsInvoke greeted.made (finishes_append old.said (ready_frame old.name ∷ next_frame ∷ []) ∙ append-nil (finishes_in old.said)) follows

  -- its program said NEXT
  pub follows_next : (old new : LifeState) (own : List Event) → Heard next_frame new old → Follows setup clients Why old own → Follows setup clients Why new own
  follows_next old new own heard follows = same_finishes old new own new.link _ _ heard.made (finishes_next old.said) follows

  -- an OP was heard
  pub follows_op : (old new : LifeState) (own : List Event) (tag : ℕ) (op : Op) → Heard (op_frame tag op) new old → Follows setup clients Why old own → Follows setup clients Why new own
  follows_op old new own tag op heard follows = same_finishes old new own new.link _ _ heard.made (finishes_op old.said tag op) follows

  -- no call comes any more
  pub follows_spent : (old : LifeState) (own : List Event) → Follows setup clients Why old own → Follows setup clients Why (spent old) own
  follows_spent old own follows = record { alive = follows.alive; taken = follows.taken; told = follows.told; came = follows.came }

  -- a request was taken and sent
  pub follows_take : (old new : LifeState) (own : List Event) (t : Taken) (f : Frame) → is_of_life old.server.0 old.generation.0 t.server.0 t.generation.0 ≡ true → is_invoke_body f.body ≡ true → Invoked f new old
      → Follows setup clients Why old own → Follows setup clients Why new (Take t ∷ own)
  follows_take old new own t f its invokes invoked follows = subst (λ (s : LifeState). Follows setup clients Why s (Take t ∷ own)) (sym invoked.made) (record {
    alive = follows.alive;
    taken = taken_more old.server.0 old.generation.0 t own old.asked f its invokes follows.taken;
    told = take_asked clients old (old.asked ++ f ∷ []) own t f refl its invokes follows.told;
    came = subst (λ (os : List Occurrence). EachCame setup Why (finishes_in old.said) os) (sym (append-nil (came_in old.server.0 old.generation.0 own))) follows.came;
  })

  -- ---- calls

  -- so far as the life goes on, a call and its REPLY change nothing else
  call_follows : (old : LifeState) (asked : List Frame) (link : LinkShows) (n : ℕ) (more own : List Event) (reply : Told) → AreCall (caller_of clients old.server.0) n more
      → asked ≡ old.asked ++ reply_frame (tag_of old) reply ∷ [] → due_in_life clients old.server.0 old.generation.0 (more ++ own) ≡ shape asked
      → Follows setup clients Why old own → Follows setup clients Why (record old { link = link; asked = asked; turn = Serving }) (more ++ own)
  call_follows old asked link n more own reply are is due follows =
      let server = old.server.0 in
      let g = old.generation.0 in
      let caller = caller_of clients server in
      record {
        alive = call_keeps caller n (count (stops_life server g)) (λ e past its. ends_idle server g e past (call_of_none caller n server g e its)) more own are ∙ follows.alive;
        taken = call_counts_none caller n (is_take_in server g) (call_takes_none caller n server g) more own are ∙ (follows.taken
            ∙ ap length (sym (ap invokes_in is ∙ no_invoke old.asked (reply_frame (tag_of old) reply) refl)));
        told = due;
        came = subst (λ (os : List Occurrence). EachCame setup Why (finishes_in old.said) os)
            (sym (call_keeps caller n (came_in server g) (λ e past its. came_idle server g e past (call_of_none caller n server g e its)) more own are)) follows.came;
      }

  -- its call was made, and the REPLY that tells what came of it was written
  pub follows_replied : (old new : LifeState) (n : ℕ) (more own : List Event) (reply : Told) → AreCall (caller_of clients old.server.0) n more → count (is_op (caller_of clients old.server.0) n) own ≡ 0
      → is_busy_in old.generation.0 (doing old.server.0 own) ≡ true → invocation old.server.0 old.generation.0 own ≡ tag_of old
      → reply ≡ reply_at (more ++ own) (caller_of clients old.server.0) n → Invoked (reply_frame (tag_of old) reply) new old → Follows setup clients Why old own → Follows setup clients Why new (more ++ own)
  follows_replied old new n more own reply are fresh busy tag is invoked follows =
      subst (λ (s : LifeState). Follows setup clients Why s (more ++ own)) (sym invoked.made)
      (call_follows old (old.asked ++ reply_frame (tag_of old) reply ∷ []) _ n more own reply are refl
      (call_asked clients old n more own are fresh busy tag follows.told ∙ ap (λ (r : Told). shape (old.asked ++ reply_frame (tag_of old) r ∷ [])) (sym is)) follows)

  -- its RETURN or FORWARD was heard, and the request ended as that says
  pub follows_end : (old new : LifeState) (own : List Event) (e : Ended) (back : Finish) (tag : ℕ) → is_of_life old.server.0 old.generation.0 e.server.0 e.generation.0 ≡ true
      → Heard (finish_frame tag back) new old → ComesTo setup Why back (record { event = End e; before = own }) → Follows setup clients Why old own → Follows setup clients Why new (End e ∷ own)
  follows_end old new own e back tag its heard comes follows = subst (λ (s : LifeState). Follows setup clients Why s (End e ∷ own)) (sym heard.made) (record {
    alive = follows.alive;
    taken = follows.taken;
    told = due_unmoved clients old.server.0 old.generation.0 (End e) own refl refl ∙ follows.told;
    came = came_by setup Why old own back tag (record { event = End e; before = own }) (came_in old.server.0 old.generation.0 (End e ∷ own)) (came_end old.server.0 old.generation.0 e own its) comes follows.came;
  })

  -- its FORWARD was heard, and the request was forwarded
  pub follows_forward : (old new : LifeState) (own : List Event) (f : Forwarded) (back : Finish) (tag : ℕ) → is_of_life old.server.0 old.generation.0 f.server.0 f.generation.0 ≡ true
      → Heard (finish_frame tag back) new old → ComesTo setup Why back (record { event = Forward f; before = own }) → Follows setup clients Why old own → Follows setup clients Why new (Forward f ∷ own)
  follows_forward old new own f back tag its heard comes follows = subst (λ (s : LifeState). Follows setup clients Why s (Forward f ∷ own)) (sym heard.made) (record {
    alive = follows.alive;
    taken = follows.taken;
    told = due_unmoved clients old.server.0 old.generation.0 (Forward f) own refl refl ∙ follows.told;
    came = came_by setup Why old own back tag (record { event = Forward f; before = own }) (came_in old.server.0 old.generation.0 (Forward f ∷ own)) (came_forward old.server.0 old.generation.0 f own its) comes follows.came;
  })

  -- ---- as it ends

  -- with no request in hand
  settles : (old : LifeState) (over : Ending) (own : List Event) (link : LinkShows) → over.life ≡ record old { link = link } → is_held old.turn ≡ false → Follows setup clients Why old own → Settled setup clients Why over own
  settles old over own link made free follows = by_life over.life over.cause made
    where
      by_life : (life : LifeState) (cause : StopCause) → life ≡ record old { link = link } → Settled setup clients Why (record over { life = life; cause = cause }) own
      by_life life cause is = subst (λ (s : LifeState). Settled setup clients Why (record over { life = s; cause = cause }) own) (sym is) (record {
        alive = follows.alive;
        taken = follows.taken;
        told = follows.told;
        came = none_lost setup Why cause old.turn (finishes_in old.said) (came_in old.server.0 old.generation.0 own) free follows.came;
      })

  pub settles_fallen : (old : LifeState) (over : Ending) (own : List Event) → Fell over old → is_held old.turn ≡ false → Follows setup clients Why old own → Settled setup clients Why over own
  settles_fallen old over own fell free follows = settles old over own over.life.link fell.life free follows

  pub settles_shut : (old : LifeState) (over : Ending) (own : List Event) → ShutDown over old → old.turn ≡ AwaitsInvoke → Follows setup clients Why old own → Settled setup clients Why over own
  settles_shut old over own shut idle follows = settles old over own over.life.link shut.life (ap is_held idle) follows

  pub settles_exited : (old : LifeState) (over : Ending) (own : List Event) → Exits over old → old.turn ≡ Exited → Follows setup clients Why old own → Settled setup clients Why over own
  settles_exited old over own exits done follows = settles old over own (closed old.link) exits.life (ap is_held done) follows

  -- with the request in hand
  loses : (over : Ending) (own : List Event) (e : Ended) → is_held over.life.turn ≡ true → is_of_life over.life.server.0 over.life.generation.0 e.server.0 e.generation.0 ≡ true → e.outcome ≡ lost_by over.cause
      → Follows setup clients Why over.life own → Settled setup clients Why over (End e ∷ own)
  loses over own e held its ends follows = record {
    alive = follows.alive;
    taken = follows.taken;
    told = due_unmoved clients over.life.server.0 over.life.generation.0 (End e) own refl refl ∙ follows.told;
    came = subst (λ (b : Bool). CameBy b setup Why over.cause (finishes_in over.life.said) (came_in over.life.server.0 over.life.generation.0 (End e ∷ own))) (sym held)
        (came_in over.life.server.0 over.life.generation.0 own, record { event = End e; before = own }, came_end over.life.server.0 over.life.generation.0 e own its, follows.came, ends);
  }

  -- as its RETURN or FORWARD was to come, or an OP
  pub settles_lost : (old : LifeState) (over : Ending) (own : List Event) (e : Ended) → Fell over old → is_held old.turn ≡ true → is_of_life over.life.server.0 over.life.generation.0 e.server.0 e.generation.0 ≡ true
      → e.outcome ≡ lost_by over.cause → Follows setup clients Why old own → Settled setup clients Why over (End e ∷ own)
  settles_lost old over own e fell held its ends follows =
      loses over own e (ap (λ (s : LifeState). is_held s.turn) fell.life ∙ held) its ends
      (subst (λ (s : LifeState). Follows setup clients Why s own) (sym fell.life) (record { alive = follows.alive; taken = follows.taken; told = follows.told; came = follows.came }))

  -- as its call was to be made
  pub settles_starved : (old : LifeState) (over : Ending) (own : List Event) (e : Ended) → Starves over old → old.turn ≡ Performing → is_of_life over.life.server.0 over.life.generation.0 e.server.0 e.generation.0 ≡ true
      → e.outcome ≡ lost_by over.cause → Follows setup clients Why old own → Settled setup clients Why over (End e ∷ own)
  settles_starved old over own e starves calls its ends follows =
      loses over own e (ap (λ (s : LifeState). is_held s.turn) starves.life ∙ ap is_held calls) its ends
      (subst (λ (s : LifeState). Follows setup clients Why s own) (sym starves.life) (record { alive = follows.alive; taken = follows.taken; told = follows.told; came = follows.came }))

  -- as its INVOKE was to be written
  pub settles_unsent : (old : LifeState) (over : Ending) (own : List Event) (t : Taken) (e : Ended) (f : Frame) → Unsent f over old → is_invoke_body f.body ≡ true
      → is_of_life old.server.0 old.generation.0 t.server.0 t.generation.0 ≡ true → is_of_life over.life.server.0 over.life.generation.0 e.server.0 e.generation.0 ≡ true
      → e.outcome ≡ lost_by over.cause → Follows setup clients Why old own → Settled setup clients Why over (End e ∷ Take t ∷ own)
  settles_unsent old over own t e f unsent invokes its ended ends follows =
      loses over (Take t ∷ own) e (ap (λ (s : LifeState). is_held s.turn) unsent.life) ended ends
      (subst (λ (s : LifeState). Follows setup clients Why s (Take t ∷ own)) (sym unsent.life) (record {
        alive = follows.alive;
        taken = taken_more old.server.0 old.generation.0 t own old.asked f its invokes follows.taken;
        told = take_asked clients old (old.asked ++ f ∷ []) own t f refl its invokes follows.told;
        came = subst (λ (os : List Occurrence). EachCame setup Why (finishes_in old.said) os) (sym (append-nil (came_in old.server.0 old.generation.0 own))) follows.came;
      }))

  -- as the REPLY to its call was to be written
  pub settles_unsaid : (old : LifeState) (over : Ending) (n : ℕ) (more own : List Event) (e : Ended) (reply : Told) → AreCall (caller_of clients old.server.0) n more
      → count (is_op (caller_of clients old.server.0) n) own ≡ 0 → is_busy_in old.generation.0 (doing old.server.0 own) ≡ true → invocation old.server.0 old.generation.0 own ≡ tag_of old
      → reply ≡ reply_at (more ++ own) (caller_of clients old.server.0) n → Unsent (reply_frame (tag_of old) reply) over old
      → is_of_life over.life.server.0 over.life.generation.0 e.server.0 e.generation.0 ≡ true → e.outcome ≡ lost_by over.cause → Follows setup clients Why old own → Settled setup clients Why over (End e ∷ more ++ own)
  settles_unsaid old over n more own e reply are fresh busy tag is unsent its ends follows =
      loses over (more ++ own) e (ap (λ (s : LifeState). is_held s.turn) unsent.life) its ends
      (subst (λ (s : LifeState). Follows setup clients Why s (more ++ own)) (sym unsent.life)
      (call_follows old (old.asked ++ reply_frame (tag_of old) reply ∷ []) _ n more own reply are refl
      (call_asked clients old n more own are fresh busy tag follows.told ∙ ap (λ (r : Told). shape (old.asked ++ reply_frame (tag_of old) r ∷ [])) (sym is)) follows))

  -- and its end is noted
  pub stops : (over : Ending) (own : List Event) (x : Stopped) → is_of_life over.life.server.0 over.life.generation.0 x.server.0 x.generation.0 ≡ true → x.cause ≡ over.cause
      → Settled setup clients Why over own → HasStopped setup clients Why over (Stop x ∷ own)
  stops over own x its why settled = record {
    taken = settled.taken;
    told = due_unmoved clients over.life.server.0 over.life.generation.0 (Stop x) own refl refl ∙ settled.told;
    came = subst (λ (os : List Occurrence). AllCame setup Why over.cause over.life.turn (finishes_in over.life.said) os) (sym (append-nil (came_in over.life.server.0 over.life.generation.0 own))) settled.came;
    stopped = rw its (ap (λ (c : StopCause). Some c) why);
    last = rw its (its, sym (count_own over.life.server.0 over.life.generation.0 (stops_life over.life.server.0 over.life.generation.0) (stops_none over.life.server.0 over.life.generation.0) own) ∙ settled.alive);
  }

-- ---- behind other events

module _ (setup : Setup) (Why Still : Reasons) where
  -- a reason behind these events is one behind those
  abbrev Leads : Event → List Event → List Event → Type 0
  Leads (End e) before now = (service : List ℕ) (payload : Data) → Why service payload e before → Still service payload e now
  Leads event before now = Unit {0}

  comes_led : (back : Finish) (event : Event) (before now : List Event) → Leads event before now → ComesTo setup Why back (record { event = event; before = before }) → ComesTo setup Still back (record { event = event; before = now })
  comes_led (Returns back) event before now leads comes = comes
  comes_led (Forwards forward) (End e) before now leads comes = (comes.0, leads forward.service forward.payload comes.1)
  comes_led (Forwards forward) event before now leads comes = comes

  -- the same events, and what comes to the one comes to the other
  abbrev Led : Occurrence → Occurrence → Type 0
  Led came other = (came.event ≡ other.event) × ((back : Finish) → ComesTo setup Why back came → ComesTo setup Still back other)

  abbrev EachLed : List Occurrence → List Occurrence → Type 0
  EachLed [] [] = Unit {0}
  EachLed (c ∷ came) (o ∷ others) = Led c o × EachLed came others
  EachLed came others = ⊥

  led_append : (came others more others' : List Occurrence) → EachLed came others → EachLed more others' → EachLed (came ++ more) (others ++ others')
  led_append [] [] more others' led next = next
  led_append [] (o ∷ others) more others' led next = absurd led
  led_append (c ∷ came) [] more others' led next = absurd led
  led_append (c ∷ came) (o ∷ others) more others' led next = (led.0, led_append came others more others' led.1 next)

  each_led : (finishes : List Finish) (came others : List Occurrence) → EachLed came others → EachCame setup Why finishes came → EachCame setup Still finishes others
  each_led [] [] [] led each = tt
  each_led [] [] (o ∷ others) led each = absurd led
  each_led [] (c ∷ came) others led each = absurd each
  each_led (r ∷ finishes) [] others led each = absurd each
  each_led (r ∷ finishes) (c ∷ came) [] led each = absurd led
  each_led (r ∷ finishes) (c ∷ came) (o ∷ others) led each = (led.0.1 r each.0, each_led finishes came others led.1 each.1)

  -- a list that ends with an event, as one that has the same
  split_led : (earlier : List Occurrence) (last : Occurrence) (others : List Occurrence) → EachLed (earlier ++ last ∷ []) others
      → (front : List Occurrence) × (o : Occurrence) × (others ≡ front ++ o ∷ []) × EachLed earlier front × (last.event ≡ o.event)
  split_led [] last [] led = absurd led
  split_led [] last (o ∷ []) led = ([], o, refl, tt, led.0.0)
  split_led [] last (o ∷ p ∷ others) led = absurd led.1
  split_led (c ∷ earlier) last [] led = absurd led
  split_led (c ∷ earlier) last (o ∷ others) led =
      let more = split_led earlier last others led.1 in
      (o ∷ more.0, more.1, ap (λ (os : List Occurrence). o ∷ os) more.2, (led.0, more.3), more.4)

  all_led : (cause : StopCause) (held : Bool) (finishes : List Finish) (came others : List Occurrence) → EachLed came others → CameBy held setup Why cause finishes came
      → CameBy held setup Still cause finishes others
  all_led cause true finishes came others led (earlier, last, is, each, lost) =
      let parts = split_led earlier last others (subst (λ (os : List Occurrence). EachLed os others) is led) in
      (parts.0, parts.1, parts.2, each_led finishes earlier parts.0 parts.3 each, subst (λ (e : Event). EndsAs (lost_by cause) e) parts.4 lost)
  all_led cause false finishes came others led each = each_led finishes came others led each

  -- ---- by other reasons

  module _ (leads : (service : List ℕ) (payload : Data) (e : Ended) (before : List Event) → Why service payload e before → Still service payload e before) where
    leads_at : (event : Event) (before : List Event) → Leads event before before
    leads_at (End e) before = λ service payload why. leads service payload e before why
    leads_at event before = tt

    led_still : (came : List Occurrence) → EachLed came came
    led_still [] = tt
    led_still (c ∷ came) = ((refl, λ back comes. comes_led back c.event c.before c.before (leads_at c.event c.before) comes), led_still came)

    -- so it was for reasons that follow from these, and so it is of a life that ended
    pub follows_led : (clients : ℕ) (life : LifeState) (own : List Event) → Follows setup clients Why life own → Follows setup clients Still life own
    follows_led clients life own old = record {
      alive = old.alive;
      taken = old.taken;
      told = old.told;
      came = each_led (finishes_in life.said) (came_in life.server.0 life.generation.0 own) (came_in life.server.0 life.generation.0 own) (led_still (came_in life.server.0 life.generation.0 own)) old.came;
    }

    all_still : (over : Ending) (own : List Event) → AllCame setup Why over.cause over.life.turn (finishes_in over.life.said) (came_in over.life.server.0 over.life.generation.0 own)
        → AllCame setup Still over.cause over.life.turn (finishes_in over.life.said) (came_in over.life.server.0 over.life.generation.0 own)
    all_still over own all =
        let came = came_in over.life.server.0 over.life.generation.0 own in
        all_led over.cause (is_held over.life.turn) (finishes_in over.life.said) came came (led_still came) all

    pub settled_led : (clients : ℕ) (over : Ending) (own : List Event) → Settled setup clients Why over own → Settled setup clients Still over own
    settled_led clients over own old = record { alive = old.alive; taken = old.taken; told = old.told; came = all_still over own old.came }

    pub stopped_led : (clients : ℕ) (over : Ending) (own : List Event) → HasStopped setup clients Why over own → HasStopped setup clients Still over own
    stopped_led clients over own old = record { taken = old.taken; told = old.told; came = all_still over own old.came; stopped = old.stopped; last = old.last }

-- ---- in a run

module _ (server g : ℕ) where
  latest_or_not : (b : Bool) (x : Stopped) (past events : List Event) → is_of_life server g x.server.0 x.generation.0 ≡ b → latest (stops_life server g) past ≡ latest (stops_life server g) events
      → latest (stops_life server g) (Stop x ∷ past) ≡ latest (stops_life server g) (cond b (Stop x ∷ events) events)
  latest_or_not true x past events is same = rw is refl
  latest_or_not false x past events is same = rw is same

  stepped_over : (b : Bool) (e : Event) (events : List Event) → stops_life server g e ≡ false → latest (stops_life server g) (cond b (e ∷ events) events) ≡ latest (stops_life server g) events
  stepped_over true e events none = rw none refl
  stepped_over false e events none = refl

  -- why it ended is read off the life's events alone
  latest_own : (past : List Event) → latest (stops_life server g) past ≡ latest (stops_life server g) (filter (is_of server g) past)
  latest_own [] = refl
  latest_own (Stop x ∷ past) = latest_or_not (is_of_life server g x.server.0 x.generation.0) x past (filter (is_of server g) past) refl (latest_own past)
  latest_own (Take t ∷ past) = latest_own past ∙ sym (stepped_over (is_of_life server g t.server.0 t.generation.0) (Take t) (filter (is_of server g) past) refl)
  latest_own (End e ∷ past) = latest_own past ∙ sym (stepped_over (is_of_life server g e.server.0 e.generation.0) (End e) (filter (is_of server g) past) refl)
  latest_own (Forward f ∷ past) = latest_own past ∙ sym (stepped_over (is_of_life server g f.server.0 f.generation.0) (Forward f) (filter (is_of server g) past) refl)
  latest_own (e ∷ past) = latest_own past

module _ (setup : Setup) (clients : ℕ) (Why : Reasons) (its : Event → Bool) (server g : ℕ) (among : (e : Event) → is_of server g e ≡ true → its e ≡ true) where
  abbrev Borne : Event → List Event → Type 0
  Borne = IsBorneOut setup clients Why its server g

  others_not : (e : Event) → its e ≡ false → is_of server g e ≡ false
  others_not e other = by_one (is_of server g e) refl
    where
      by_one : (b : Bool) → is_of server g e ≡ b → b ≡ false
      by_one true is = sym (among e is) ∙ other
      by_one false is = refl

  -- the life's events are among the worker's own
  life_among : (past : List Event) → filter (is_of server g) (filter its past) ≡ filter (is_of server g) past
  life_among [] = refl
  life_among (e ∷ past) = by_one (its e) refl (life_among past)
    where
      by_one : (b : Bool) → its e ≡ b → filter (is_of server g) (filter its past) ≡ filter (is_of server g) past
          → filter (is_of server g) (cond b (e ∷ filter its past) (filter its past)) ≡ filter (is_of server g) (e ∷ past)
      by_one true is same = ap (λ (es : List Event). cond (is_of server g e) (e ∷ es) es) same
      by_one false is same = rw (others_not e is) same

  abbrev EachBorne : List Occurrence → List Occurrence → Type 0
  EachBorne = EachLed setup Why (MayFail setup clients)

  -- and so is what its takes came to, each behind the worker's own of what stood before
  one_borne : (b : Bool) (e : Event) (past : List Event) → Leads setup Why (MayFail setup clients) e (filter its past) past
      → EachBorne (if b then (record { event = e; before = filter its past }) ∷ [] else []) (if b then (record { event = e; before = past }) ∷ [] else [])
  one_borne true e past leads = ((refl, λ back comes. comes_led setup Why (MayFail setup clients) back e (filter its past) past leads comes), tt)
  one_borne false e past leads = tt

  came_borne : (e : Event) (past : List Event) → Borne e past → EachBorne (came_at server g e (filter its past)) (came_at server g e past)
  came_borne (End e) past borne = by_one (is_of_life server g e.server.0 e.generation.0) refl
    where
      by_one : (b : Bool) → is_of_life server g e.server.0 e.generation.0 ≡ b
          → EachBorne (if b then (record { event = End e; before = filter its past }) ∷ [] else []) (if b then (record { event = End e; before = past }) ∷ [] else [])
      by_one true is = one_borne true (End e) past (borne is)
      by_one false is = tt
  came_borne (Forward f) past borne = one_borne (is_of_life server g f.server.0 f.generation.0) (Forward f) past tt
  came_borne e past borne = tt

  each_borne : (past : List Event) → AtEach Borne past → EachBorne (came_in server g (filter its past)) (came_in server g past)
  each_borne [] failed = tt
  each_borne (e ∷ past) failed = by_one (its e) refl (each_borne past failed.1)
    where
      by_one : (b : Bool) → its e ≡ b → EachBorne (came_in server g (filter its past)) (came_in server g past)
          → EachBorne (came_in server g (cond b (e ∷ filter its past) (filter its past))) (came_in server g (e ∷ past))
      by_one true is led = led_append setup Why (MayFail setup clients) (came_in server g (filter its past)) (came_in server g past) (came_at server g e (filter its past)) (came_at server g e past) led (came_borne e past failed.0)
      by_one false is led = subst (EachBorne (came_in server g (filter its past))) (sym (came_idle server g e past (others_not e is))) led

-- ---- what was written

-- where nothing else of the life is newer than its end, the server isn't busy in it
after_none : (g : ℕ) (outcome : Outcome) (h : Generation) → is_busy_in g (after_end outcome h) ≡ false
after_none g (Returned code payload) h = refl
after_none g (Failed code payload) h = refl
after_none g BadReturn h = refl
after_none g (BadForward version) h = refl
after_none g Died h = refl
after_none g Starved h = refl

module _ (server g : ℕ) where
  moved_none : (e : Event) → is_of server g e ≡ false → moves_server server e ≡ true → is_busy_in g (doing_after (Some e)) ≡ false
  moved_none (Take t) other moves = rw moves at other
  moved_none (End e) other moves = after_none g e.outcome e.generation
  moved_none e other moves = refl

  stopped_none : (e : Event) → stops_life server g e ≡ true → (moves_server server e ≡ true) × (is_busy_in g (doing_after (Some e)) ≡ false)
  stopped_none (Stop x) stops = ((and_parts (x.server.0 == server) (x.generation.0 == g) stops).0, refl)
  stopped_none e stops = absurd (cc stops)

  busy_before : (past : List Event) → EndsLast server g (filter (is_of server g) past) → is_busy_in g (doing server past) ≡ false
  unfolding doing
  busy_before [] last = absurd last
  busy_before (e ∷ past) last = by_one (is_of server g e) (moves_server server e) refl refl (λ earlier. busy_before past earlier)
    where
      here : moves_server server e ≡ true → is_busy_in g (doing_after (Some e)) ≡ false → is_busy_in g (doing_after (latest (moves_server server) (e ∷ past))) ≡ false
      here moves none = rw moves none

      by_one : (b c : Bool) → is_of server g e ≡ b → moves_server server e ≡ c → (EndsLast server g (filter (is_of server g) past) → is_busy_in g (doing_after (latest (moves_server server) past)) ≡ false)
          → is_busy_in g (doing_after (latest (moves_server server) (e ∷ past))) ≡ false
      by_one true c is moves before =
          let ends : EndsLast server g (e ∷ filter (is_of server g) past) = rw is at last in
          let stop = stopped_none e ends.0 in
          here stop.0 stop.1
      by_one false true is moves before = here moves (moved_none e is moves)
      by_one false false is moves before = rw moves (before (rw is at last))

none_replied : (clients server g : ℕ) (all : List Event) (e : Event) (past : List Event) → is_busy_in g (doing server past) ≡ false → replied_at clients server g all e past ≡ []
none_replied clients server g all e past free = by_one (is_call_of (caller_of clients server) e) refl
  where
    by_one : (b : Bool) → is_call_of (caller_of clients server) e ≡ b → replied_at clients server g all e past ≡ []
    by_one true is = rw is (rw free refl)
    by_one false is = rw is refl

module _ (clients server g : ℕ) (invokes : List Frame) (all : List Event) where
  abbrev Writes : List Event → List Frame
  Writes past = from_each (written_at clients server g all) past

  abbrev Fills : List Event → List Frame
  Fills past = fill (from_each (due_by clients server g all) past) invokes

  -- what is written at an event but the life's end fills what is due by it
  one_out : (e : Event) (past : List Event) → stops_life server g e ≡ false → IsSent server g invokes e past
      → written_at clients server g all e past ≡ fill (due_by clients server g all e past) (drop (count (is_take_in server g) past) invokes)
  one_out (Take t) past alive sent = by_one (is_of_life server g t.server.0 t.generation.0) refl
    where
      by_one : (b : Bool) → is_of_life server g t.server.0 t.generation.0 ≡ b
          → written_at clients server g all (Take t) past ≡ fill (due_by clients server g all (Take t) past) (drop (count (is_take_in server g) past) invokes)
      by_one true is = rw is (sent is ∙ sym (fill_one (drop (count (is_take_in server g) past) invokes)))
      by_one false is = rw is refl
  one_out (Stop x) past alive sent = rw alive refl
  one_out e past alive sent = sym (fill_some (replied_at clients server g all e past) (drop (count (is_take_in server g) past) invokes))

  -- so while the life goes on
  out_alive : (past : List Event) → count (stops_life server g) past ≡ 0 → AtEach (IsSent server g invokes) past → Writes past ≡ Fills past
  out_alive [] alive sent = refl
  out_alive (e ∷ past) alive sent =
      let now = none_counted (stops_life server g) e past alive in
      fills clients server g all e past (Writes past) invokes (written_at clients server g all e past) (out_alive past now.1 sent.1) (one_out e past now.0 sent.0)

  at_stop : (cause : StopCause) (e : Event) (past : List Event) → is_of server g e ≡ true → EndsLast server g (e ∷ filter (is_of server g) past) → cause_of server g (e ∷ past) ≡ Some cause
      → AtEach (IsSent server g invokes) (e ∷ past) → Writes (e ∷ past) ≡ Fills (e ∷ past) ++ farewell cause
  at_stop cause (Stop x) past is last why sent =
      let its : x.cause ≡ cause = cc (rw is at why) in
      rw is (ap (λ (fs : List Frame). fs ++ farewell x.cause) (out_alive past (count_own server g (stops_life server g) (stops_none server g) past ∙ last.1) sent.1)
      ∙ (ap (λ (c : StopCause). Fills past ++ farewell c) its
      ∙ ap (λ (fs : List (Option Frame)). fill fs invokes ++ farewell cause) (sym (append-nil (from_each (due_by clients server g all) past)))))
  at_stop cause e past is last why sent = absurd (cc last.0)

  -- behind its end nothing is written
  one_after : (e : Event) (past : List Event) → is_of server g e ≡ false → is_busy_in g (doing server past) ≡ false
      → (written_at clients server g all e past ≡ []) × (due_by clients server g all e past ≡ [])
  one_after (Take t) past other free = (rw other refl, rw other refl)
  one_after (Stop x) past other free = (rw other refl, refl)
  one_after e past other free = (none_replied clients server g all e past free, ap (λ (fs : List Frame). map (λ (f : Frame). Some f) fs) (none_replied clients server g all e past free))

  -- and what its end says
  out_stopped : (cause : StopCause) (past : List Event) → EndsLast server g (filter (is_of server g) past) → cause_of server g past ≡ Some cause → AtEach (IsSent server g invokes) past
      → Writes past ≡ Fills past ++ farewell cause
  out_stopped cause [] last why sent = absurd last
  out_stopped cause (e ∷ past) last why sent = by_one (is_of server g e) refl (λ earlier so. out_stopped cause past earlier so sent.1)
    where
      by_one : (b : Bool) → is_of server g e ≡ b
          → (EndsLast server g (filter (is_of server g) past) → cause_of server g past ≡ Some cause → Writes past ≡ Fills past ++ farewell cause) → Writes (e ∷ past) ≡ Fills (e ∷ past) ++ farewell cause
      by_one true is before = at_stop cause e past is (rw is at last) why sent
      by_one false is before =
          let earlier : EndsLast server g (filter (is_of server g) past) = rw is at last in
          let none = one_after e past is (busy_before server g past earlier) in
          ap (λ (fs : List Frame). Writes past ++ fs) none.0 ∙ (append-nil (Writes past) ∙ (before earlier (sym (cause_idle server g e past is) ∙ why)
          ∙ ap (λ (fs : List (Option Frame)). fill fs invokes ++ farewell cause)
          (sym (ap (λ (fs : List (Option Frame)). from_each (due_by clients server g all) past ++ fs) none.1 ∙ append-nil (from_each (due_by clients server g all) past)))))

take_its : (server g : ℕ) (e : Event) → is_take_in server g e ≡ true → is_of server g e ≡ true
take_its server g (Take t) is = is
take_its server g e is = absurd (cc is)

-- ---- the law

pub is_life : (setup : Setup) (clients : ℕ) (Why : Reasons) (over : Ending) (own past : List Event) → IsOver over → HasStopped setup clients Why over own → StandsIn setup clients Why over own past
    → IsLife setup clients past over
is_life setup clients Why over own past ended noted stands =
    let server = over.life.server.0 in
    let g = over.life.generation.0 in
    let same : filter (is_of server g) own ≡ filter (is_of server g) past
    = ap (filter (is_of server g)) stands.are ∙ life_among setup clients Why stands.its server g stands.among past in
    let led : EachLed setup Why (MayFail setup clients) (came_in server g own) (came_in server g past)
    = subst (λ (es : List Event). EachLed setup Why (MayFail setup clients) (came_in server g es) (came_in server g past)) (sym stands.are)
    (each_borne setup clients Why stands.its server g stands.among past stands.failed) in
    let why : cause_of server g own ≡ cause_of server g past
    = ap cause_in (latest_own server g own ∙ (ap (λ (es : List Event). latest (stops_life server g) es) same ∙ sym (latest_own server g past))) in
    let invokes = invokes_of over.life in
    let taken : (e : Event) → is_take_in server g e ≡ true → stands.its e ≡ true = λ e is. stands.among e (take_its server g e is) in
    let told : due_in_life clients server g past ≡ shape over.life.asked
    = sym (due_among stands.its clients server g stands.called stands.moved taken past) ∙ (ap (λ (es : List Event). due_in_life clients server g es) (sym stands.are) ∙ noted.told) in
    let sent : frames_out clients server g past ≡ over.life.asked ++ farewell over.cause
    = out_stopped clients server g invokes past over.cause past (subst (λ (es : List Event). EndsLast server g es) same noted.last) (sym why ∙ noted.stopped) stands.sent
    ∙ ap (λ (fs : List Frame). fs ++ farewell over.cause) (ap (λ (fs : List (Option Frame)). fill fs invokes) told ∙ refill over.life.asked) in
    record {
      over_is = ended;
      stopped = sym why ∙ noted.stopped;
      asked = sent;
      came = all_led setup Why (MayFail setup clients) over.cause (is_held over.life.turn) (finishes_in over.life.said) (came_in server g own) (came_in server g past) led noted.came;
      closed = stands.closed;
      spent = stands.spent;
    }
