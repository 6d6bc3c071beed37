-- A life of a server goes on by a request.
use Rattle.std.proofs.Common.{◌≡◌, ◌⊎◌, ℕ, ◌+◌, ◌%◌, ◌^◌, ◌||◌, Bool, true, false, cond, ℤ, List, [], ◌∷◌, ◌++◌, length, Some, None, inl, inr, refl, sym, ◌∙◌, ap, subst, append-nil, arith, if◌then◌else◌, eqb-true, ◌==◌, Option}
use Rattle.std.specs.Prelude.{take, drop, ◌&&◌}
use Rattle.std.proofs.lemmas.Bool.{and_parts}
use Rattle.std.proofs.lemmas.List.{length-append}
use Rattle.std.proofs.Math.Seq.{drop-append_seam}
use Rattle.std.proofs.lemmas.List.Elements.{All-nil, All-cons, filter-append}
use Rattle.xa_desk.specs.xa_types.declared.ids.Generation.{Generation}
use Rattle.xa_desk.specs.xa_types.declared.call.Op.{Op}
use Rattle.xa_desk.specs.xa_types.declared.ids.RequestId.{RequestId}
use Rattle.xa_desk.specs.xa_types.declared.ids.ServerId.{ServerId}
use Rattle.xa_desk.specs.xa_types.declared.call.Rval.{Rval}
use Rattle.xa_desk.specs.xa_types.declared.call.Rval.TheVariants as rvals
use Rattle.xa_desk.specs.xa_types.declared.data.Data.{Data}
use Rattle.xa_desk.specs.xa_types.declared.setup.Setup.{Setup}
use Rattle.xa_desk.specs.xa_types.Kind.{is_sound}
use Rattle.xa_desk.specs.xa_events.declared.event.Event.{Event}
use Rattle.xa_desk.specs.xa_events.declared.event.Event.TheVariants.{Take, Forward, End}
use Rattle.xa_desk.specs.xa_events.declared.event.Taken.{Taken}
use Rattle.xa_desk.specs.xa_events.declared.event.Ended.{Ended}
use Rattle.xa_desk.specs.xa_events.declared.event.StopCause.TheVariants as causes
use Rattle.xa_desk.specs.xa_events.declared.event.Outcome.TheVariants as outcomes
use Rattle.xa_desk.specs.xa_events.declared.event.Doing.{Doing}
use Rattle.xa_desk.specs.xa_events.declared.event.Doing.TheVariants.{Off, Idle, Busy}
use Rattle.xa_desk.specs.xa_events.declared.event.Outcome.{Outcome}
use Rattle.xa_desk.specs.xa_types.declared.stamp.Stamp.{Stamp}
use Rattle.xa_desk.specs.xa_events.Words.{AtEach, count}
use Rattle.xa_desk.specs.xa_events.Server.{after_end}
use Rattle.xa_desk.specs.xa_events.Finishing.{returned as outcome_by_value, return_by, is_empty}
use Rattle.xa_desk.specs.xa_frame.declared.frame.Frame.{Frame}
use Rattle.xa_desk.specs.xa_queue.declared.entry.Entry.{Entry}
use Rattle.xa_desk.specs.xa_held.declared.cargo.Invocation.{Invocation}
use Rattle.xa_desk.specs.xa_worker.Work.{theirs}
use Rattle.xa_desk.specs.xa_caller.Drafts.{Cargo}
use Rattle.xa_desk.specs.xa_pipe.declared.hearing.Forward.{Forward as Onward}
use Rattle.xa_desk.specs.xa_pipe.declared.hearing.Finish.{Finish}
use Rattle.xa_desk.specs.xa_pipe.declared.hearing.Finish.TheVariants.{Returns, Forwards}
use Rattle.xa_desk.specs.xa_pipe.declared.turn.Turn.{Turn}
use Rattle.xa_desk.specs.xa_pipe.declared.turn.Turn.TheVariants.{AwaitsReady, AwaitsNext, AwaitsInvoke, Serving, Finishing, Performing, Exited}
use Rattle.xa_desk.specs.xa_pipe.Frames.{is_of_life, is_take_in, is_invoke_body, invokes_in, invocation, ready_frame, next_frame, return_frame, forward_frame, finish_frame}
use Rattle.xa_desk.specs.xa_pipe.Life.{stops_life, LinkShows, EachCame, EndsAs, IsForwarded, ComesTo, came_in, turn_behind, finishes_in, calls_in, is_acting, is_held}
use Rattle.xa_desk.specs.xa_pipe.Pipe.{invoke_frame}
use Rattle.xa_desk.specs.xa_pipe.Standing.{LifeState, IsSound, Ending, IsOver, cut_short, returned, tag_of, invokes_of, calls_of}
use Rattle.xa_desk.proofs.xa_pipe.Courses.{cut_sound}
use Rattle.xa_desk.specs.xa_pipe.Changes.{Heard, Fell, Greeted, FellGreeting, Invoked, Unsent, ShutDown, Exits, next_invoke, with_said, with_asked, turn_after}
use Rattle.xa_desk.specs.xa_pipe.Following.{is_of, Follows, Settled}
use Rattle.xa_desk.proofs.xa_pipe.Followed.{follows_greeted, follows_next, follows_take, follows_end, follows_forward, settles_fallen, settles_shut, settles_exited, settles_lost, settles_unsent}
use Rattle.xa_desk.proofs.xa_pipe.Saying.{finishes_append, finishes_next, finishes_push}
use Rattle.xa_desk.proofs.xa_pipe.Asking.{calls_append, calls_same, calls_greeted, calls_next, calls_finished, calls_replied, all_made}
use Rattle.xa_desk.specs.xa_server.declared.closing.Closing.{Closing}
use Rattle.xa_desk.specs.xa_server.declared.slot.ServerSlot.{ServerSlot}
use Rattle.xa_desk.specs.xa_server.declared.slot.Last.TheVariants as lasts
use Rattle.xa_desk.specs.xa_server.Served.{StarterShows}
use Rattle.xa_desk.specs.xa_server.Doings.{life_in, last_by, InHand}
use Rattle.xa_desk.specs.xa_server.declared.served.Served.{Served}
use Rattle.xa_desk.specs.xa_server.Noting.{IsWorn}
use Rattle.xa_desk.specs.xa_server.Changes.{Invokes, Finishes, Stops}
use Rattle.xa_desk.specs.xa_types.declared.stamp.Worn.{Worn}
use Rattle.xa_desk.specs.declared.stopped.Stopped.{Stopped}
use Rattle.xa_desk.specs.declared.domain.Domain.{Domain}
use Rattle.xa_desk.specs.declared.desk.Desk.{Desk}
use Rattle.xa_desk.specs.Desks.{Leads}
use Rattle.xa_desk.specs.Found.{SawAtQueue}
use Rattle.xa_desk.specs.Serving.{IsServing, IsSentFor}
use Rattle.xa_desk.specs.xa_events.Cases.{IsShut}
use Rattle.xa_server_worker.specs.declared.working.ServerWorker.{ServerWorker}
use Rattle.xa_server_worker.specs.Lives.{calls_of_all, IsHanded, TookEach, HandsOn, IsCut}
use Rattle.xa_server_worker.specs.Steps.{Steps, Takes, is_exit}
use Rattle.xa_server_worker.specs.Standing.{SettlesBy, HasLived, HasCalled, IsLast, IsAtWork, IsOff, IsIn, IsFree, HasTaken, IsServed, MayDie, HasEnded}
use Rattle.xa_server_worker.specs.Behind.{is_lost, ends_by, ToldBefore}
use Rattle.xa_server_worker.specs.Passing.{IsDoneBy, Passes}
use Rattle.xa_server_worker.proofs.Stepping.{stop_by}
use Rattle.xa_server_worker.proofs.Onward.{ended_done}
use Rattle.xa_server_worker.proofs.Behind.{calm_before, calm_push, leads_behind, told_last}
use Rattle.xa_server_worker.proofs.Keeping.{Sendings, OfLife, handed_wider, handed_led, going_on}
use Rattle.xa_desk.proofs.Staying.{queue_stays}
use Rattle.xa_desk.specs.xa_events.Server.{was_shut_down}
use Rattle.xa_server_worker.proofs.Lasting.{at_desk, at_kept, number_of, last_on, work_on, hands_led, in_took, in_hands, in_alive, ends_done}
use Rattle.xa_server_worker.proofs.Deaths.{is_its, death_in, stops_idle, stop_told, worn_still}
use Rattle.xa_desk.specs.xa_pipe.Life.{Reasons}
use Rattle.xa_server_worker.specs.Reasons.{ShowsReason}

-- ---- a life with another turn

-- what it is stays, and it asked for no call that was made
pub record Becomes (asked : List Frame) (new old : LifeState) : Type 0 where
  pub link : LinkShows
  pub said : List Frame
  pub turn : Turn
  pub made : new ≡ record old { link = link; asked = asked; said = said; turn = turn }
  pub calls : calls_of new ≡ calls_of old

-- so it is with its link alone
pub link_becomes : {new old : LifeState} {link : LinkShows} → new ≡ record old { link = link } → Becomes old.asked new old
link_becomes {new} {old} {link} made = record { link = link; said = old.said; turn = old.turn; made = made; calls = ap calls_of made }

module _ {new old : LifeState} (asked : List Frame) (becomes : Becomes asked new old) where
  pub at_still : {L T : Type 0} {d : Domain} {shows : T → StarterShows} {w : ServerWorker L T} → IsAtWork d shows w (old ∷ []) → IsAtWork d shows w (new ∷ [])
  at_still {L} {T} {d} {shows} {w} at = record {
    is = at.is;
    serving = at.serving;
    named_so = at.named_so;
    started = at.started;
    lived = subst (λ (g : Generation). HasLived d w.name w.queue.0 w.served.slot.server.0 w.served.slot.made w.desk w.served.lives.items (g ∷ [])) (sym (ap (λ (l : LifeState). l.generation) becomes.made)) at.lived;
    called = subst (λ (ops : List Op). HasCalled d (calls_of_all w.served.lives.items ++ (ops ++ [])) w.desk) (sym becomes.calls) at.called;
    left = at.left;
    cut = at.cut;
    told = at.told;
  }

  pub last_still : {name : List ℕ} {slot : ServerSlot} → IsLast name slot old → IsLast name slot new
  last_still last = record { server = ap (λ (l : LifeState). l.server) becomes.made ∙ last.server; named = ap (λ (l : LifeState). l.name) becomes.made ∙ last.named; number = ap (λ (l : LifeState). l.generation.0) becomes.made ∙ last.number }

  pub handed_still : (Sent : Sendings) (own : List Event) → AtEach (IsHanded old.server.0 old.generation.0 (invokes_in asked) Sent) own → AtEach (IsHanded new.server.0 new.generation.0 (invokes_of new) Sent) own
  handed_still Sent own each = subst (λ (l : LifeState). AtEach (IsHanded l.server.0 l.generation.0 (invokes_of l) Sent) own) (sym becomes.made) each

  pub does_still : (doing : Doing) → doing ≡ Idle old.generation → doing ≡ Idle new.generation
  does_still doing is = is ∙ ap (λ (l : LifeState). Idle l.generation) (sym becomes.made)

-- what a RETURN comes to where no conversation is open
pub return_is : (setup : Setup) (conns : List RequestId) (value : Rval) (code : ℤ) (payload : Data) → conns ≡ [] → return_by setup conns value code payload ≡ return_by setup [] value code payload
return_is setup conns value code payload none = ap (λ (l : List RequestId). return_by setup l value code payload) none

-- its server lives on
keeps_life : (setup : Setup) (conns : List RequestId) (value : Rval) (code : ℤ) (payload : Data) → (is_lost (return_by setup conns value code payload) || false) ≡ false
keeps_life setup conns value code payload = by value (is_sound setup payload && is_empty conns)
  where
    by : (v : Rval) (b : Bool) → (is_lost (if b then outcome_by_value v code payload else outcomes.BadReturn) || false) ≡ false
    by rvals.Success true = refl
    by rvals.Fail true = refl
    by rvals.Exit true = refl
    by v false = refl

-- the server is idle then
plain_idle : (value : Rval) (code : ℤ) (payload : Data) (b : Bool) (g : Generation) → after_end (if b then outcome_by_value value code payload else outcomes.BadReturn) g ≡ Idle g
plain_idle value code payload false g = refl
plain_idle rvals.Success code payload true g = refl
plain_idle rvals.Fail code payload true g = refl
plain_idle rvals.Exit code payload true g = refl

exits_badly : (setup : Setup) (conns : List RequestId) (value : Rval) (code : ℤ) (payload : Data) → is_exit value ≡ true → last_by (return_by setup conns value code payload) ≡ lasts.Badly
exits_badly setup conns value code payload exits = by value (is_sound setup payload && is_empty conns) exits
  where
    by : (v : Rval) (b : Bool) → is_exit v ≡ true → last_by (if b then outcome_by_value v code payload else outcomes.BadReturn) ≡ lasts.Badly
    by rvals.Exit true is = refl
    by rvals.Success true is = absurd (cc is)
    by rvals.Fail true is = absurd (cc is)
    by v false is = refl

-- ---- whose turn it is

-- a service is to go on with its request
pub acting_turn : (turn : Turn) → is_acting turn ≡ true → (turn ≡ Serving) ⊎ (turn ≡ Finishing)
acting_turn Serving acts = inl refl
acting_turn Finishing acts = inr refl
acting_turn AwaitsReady acts = absurd (cc acts)
acting_turn AwaitsNext acts = absurd (cc acts)
acting_turn AwaitsInvoke acts = absurd (cc acts)
acting_turn Performing acts = absurd (cc acts)
acting_turn Exited acts = absurd (cc acts)

acting_held : (turn : Turn) → is_acting turn ≡ true → is_held turn ≡ true
acting_held Serving acts = refl
acting_held Finishing acts = refl
acting_held AwaitsReady acts = absurd (cc acts)
acting_held AwaitsNext acts = absurd (cc acts)
acting_held AwaitsInvoke acts = absurd (cc acts)
acting_held Performing acts = absurd (cc acts)
acting_held Exited acts = absurd (cc acts)

greeting_free : (turn : Turn) → (turn ≡ AwaitsReady) ⊎ (turn ≡ AwaitsNext) → is_held turn ≡ false
greeting_free turn (inl is) = ap is_held is
greeting_free turn (inr is) = ap is_held is

-- it ends its request in one turn as in the other
acting_after : (from : Turn) (tag : ℕ) (back : Finish) → is_acting from ≡ true → turn_after from (finish_frame tag back).body ≡ turn_after Serving (finish_frame tag back).body
acting_after from tag (Returns back) acts = elim (acting_turn from acts) [ inl is ↦ ap (λ (t : Turn). turn_after t (finish_frame tag (Returns back)).body) is | inr is ↦ ap (λ (t : Turn). turn_after t (finish_frame tag (Returns back)).body) is ]
acting_after from tag (Forwards forward) acts = elim (acting_turn from acts) [ inl is ↦ ap (λ (t : Turn). turn_after t (finish_frame tag (Forwards forward)).body) is | inr is ↦ ap (λ (t : Turn). turn_after t (finish_frame tag (Forwards forward)).body) is ]

pub finish_becomes : {new old : LifeState} (back : Finish) → Heard (finish_frame (tag_of old) back) new old → is_acting old.turn ≡ true → Becomes old.asked new old
finish_becomes {new} {old} back heard acts = record { link = new.link; said = _; turn = _; made = heard.made; calls = calls_finished old new (tag_of old) back heard (acting_turn old.turn acts) }

-- it asks for no call as it says READY
calls_ready : (link : LinkShows) (old : LifeState) → old.turn ≡ AwaitsReady → calls_of (with_said (ready_frame old.name) link old) ≡ calls_of old
calls_ready link old turn =
    calls_same old (with_said (ready_frame old.name) link old) (calls_append old.said (ready_frame old.name ∷ []) ∙ append-nil (calls_in old.said)) (λ was. cc (was, turn))
    (λ now. let next : turn_after old.turn (ready_frame old.name).body ≡ AwaitsNext = ap (λ (t : Turn). turn_after t (ready_frame old.name).body) turn in cc (next, now))

-- nor as a request is handed to it
sent_calls : (f : Frame) (life : LifeState) → life.turn ≡ AwaitsInvoke → (new : LifeState) (link : LinkShows) → new ≡ with_asked f link life → calls_of new ≡ calls_of life
sent_calls f life turn new link made = calls_replied life new f link made ∙ sym (all_made life.turn (calls_in life.said) (λ was. cc (was, turn)))

invokes_push : (asked : List Frame) (f : Frame) → is_invoke_body f.body ≡ true → invokes_in (asked ++ f ∷ []) ≡ invokes_in asked ++ f ∷ []
invokes_push asked f invokes = filter-append (λ (g : Frame). is_invoke_body g.body) asked (f ∷ []) ∙ ap (λ (fs : List Frame). invokes_in asked ++ fs) (rw invokes refl)

pub exits_turn : (value : Rval) → is_exit value ≡ true → turn_behind value ≡ Exited
exits_turn rvals.Exit is = refl
exits_turn rvals.Success is = absurd (cc is)
exits_turn rvals.Fail is = absurd (cc is)

pub stays_turn : (value : Rval) → is_exit value ≡ false → turn_behind value ≡ AwaitsNext
stays_turn rvals.Exit is = absurd (cc is)
stays_turn rvals.Success is = refl
stays_turn rvals.Fail is = refl

-- how many RETURNs and FORWARDs there were
returned_next : (frames : List Frame) → length (finishes_in (frames ++ next_frame ∷ [])) ≡ length (finishes_in frames)
returned_next frames = ap length (finishes_next frames)

returned_push : (frames : List Frame) (tag : ℕ) (back : Finish) → length (finishes_in (frames ++ finish_frame tag back ∷ [])) ≡ length (finishes_in frames) + 1
returned_push frames tag back = ap length (finishes_push frames tag back) ∙ length-append (finishes_in frames) (back ∷ [])

returned_ready : (name : List ℕ) (frames : List Frame) → length (finishes_in (frames ++ ready_frame name ∷ next_frame ∷ [])) ≡ length (finishes_in frames)
returned_ready name frames = ap length (finishes_append frames (ready_frame name ∷ next_frame ∷ []) ∙ append-nil (finishes_in frames))

-- whether the server was shut down is what its slot says
pub shut_read : {d : Domain} {queue : ℕ} {slot : ServerSlot} {desk : Desk} → IsServing d queue slot desk → slot.shut ≡ true → was_shut_down slot.server.0 (theirs desk.caller.work) ≡ true
unfolding was_shut_down
shut_read serving is = serving.stands.tables.reads.stopped ∙ is

abbrev pub own_of : {L T : Type 0} → ServerWorker L T → List Event
own_of w = theirs w.desk.caller.work

-- the INVOKE at its place
invoke_is : (life : LifeState) (before : List Event) (t : Taken) (what : Invocation) → is_of_life life.server.0 life.generation.0 t.server.0 t.generation.0 ≡ true → count (is_take_in life.server.0 life.generation.0) before ≡ length (invokes_of life) → length (invokes_of life) ≡ returned life
    → take 1 (drop (count (is_take_in life.server.0 life.generation.0) before) (invokes_of life ++ next_invoke what.service what.routine what.payload life ∷ []))
    ≡ invoke_frame what.service what.routine (invocation life.server.0 life.generation.0 (Take t ∷ before)) what.payload ∷ []
unfolding invocation
invoke_is life before t what its taken even =
    let f : Frame = next_invoke what.service what.routine what.payload life in
    ap (λ (n : ℕ). take 1 (drop n (invokes_of life ++ f ∷ []))) taken ∙ ap (take 1) (drop-append_seam (invokes_of life) (f ∷ []))
    ∙ ap (λ (n : ℕ). invoke_frame what.service what.routine ((n + 1) % 2 ^ 32) what.payload ∷ []) (sym (taken ∙ even))
    ∙ ap (λ (b : Bool). invoke_frame what.service what.routine (cond b (count (is_take_in life.server.0 life.generation.0) before + 1) (count (is_take_in life.server.0 life.generation.0) before) % 2 ^ 32) what.payload ∷ []) (sym its)

-- the event takes the request out of the server's hand
abbrev IsFinishing : Event → Type 0
IsFinishing (End e) = Unit {0}
IsFinishing (Forward f) = Unit {0}
IsFinishing _ = ⊥

forward_event : (Why : Reasons) (service : List ℕ) (payload : Data) (e : Event) (before : List Event) → IsForwarded Why service payload e before → IsFinishing e
forward_event Why service payload (End e) before by = tt
forward_event Why service payload (Forward f) before by = tt
forward_event Why service payload _ before by = absurd by

return_event : (outcome : Outcome) (e : Event) → EndsAs outcome e → IsFinishing e
return_event outcome (End e) by = tt
return_event outcome _ by = absurd by

-- what a RETURN or a FORWARD comes to is such an event
finished_event : (setup : Setup) (Why : Reasons) (back : Finish) (e : Event) (before : List Event) → ComesTo setup Why back (record { event = e; before = before }) → IsFinishing e
finished_event setup Why (Returns back) e before comes = return_event (return_by setup [] back.value back.code back.payload) e comes
finished_event setup Why (Forwards forward) e before comes = forward_event Why forward.service forward.payload e before comes

follows_done : (setup : Setup) (clients : ℕ) (Why : Reasons) (old new : LifeState) (own : List Event) (e : Event) (back : Finish) (tag : ℕ) → is_of old.server.0 old.generation.0 e ≡ true → Heard (finish_frame tag back) new old → ComesTo setup Why back (record { event = e; before = own }) → Follows setup clients Why old own → Follows setup clients Why new (e ∷ own)
follows_done setup clients Why old new own e back tag its heard comes follows = by e (finished_event setup Why back e own comes) its comes
  where
    by : (x : Event) → IsFinishing x → is_of old.server.0 old.generation.0 x ≡ true → ComesTo setup Why back (record { event = x; before = own }) → Follows setup clients Why new (x ∷ own)
    by (End x) is ours here = follows_end setup clients old new own x back tag ours heard here follows
    by (Forward f) is ours here = follows_forward setup clients old new own f back tag ours heard here follows
    by _ is ours here = absurd is

-- a forward ends no life
keeps_on : (Why : Reasons) (service : List ℕ) (payload : Data) (e : Event) (before : List Event) → IsForwarded Why service payload e before → ends_by e false ≡ false
keeps_on Why service payload (Forward f) before by = refl
keeps_on Why service payload (End e) before by = ap (λ (o : Outcome). is_lost o || false) by.0.1
keeps_on Why service payload _ before by = absurd by

its_generation : (s h server g : ℕ) → is_of_life server g s h ≡ true → h ≡ g
its_generation s h server g its = eqb-true h g (and_parts (s == server) (h == g) its).1

-- the request in hand ended by its RETURN
pub return_done : {L T : Type 0} {d : Domain} (w : ServerWorker L T) (value : Rval) (code : ℤ) (payload : Data) (conns : List RequestId) (closing : Closing) (slot' : ServerSlot) (desk' : Desk) → Leads d w.desk desk' → desk'.caller.seat ≡ w.desk.caller.seat → IsServing d w.queue.0 w.served.slot w.desk → IsServing d w.queue.0 slot' desk'
    → Finishes (return_by d.setup conns value code payload) closing slot' w.served.slot desk'.caller.work w.desk.caller.work → (e : Ended) × IsDoneBy d w.queue.0 (End e) w.served.slot slot' w.desk desk' × (e.outcome ≡ return_by d.setup conns value code payload)
return_done {L} {T} {d} w value code payload conns closing slot' desk' leads seat was serving finishes =
    let ended = ended_done (return_by d.setup conns value code payload) closing leads (number_of was) serving seat (plain_idle value code payload (is_sound d.setup payload && is_empty conns)) finishes in (ended.0, ended.1, ended.2)

-- as a life ends by TPEXIT nothing but its link changes
exits_made : {over : Ending} {life : LifeState} → Exits over life → over.life ≡ record life { link = over.life.link }
exits_made {over} {life} exits = exits.life ∙ ap (λ (l : LinkShows). record life { link = l }) (sym (ap (λ (s : LifeState). s.link) exits.life))

module _ {L T : Type 0} {d : Domain} {shows : T → StarterShows} (w : ServerWorker L T) where
  -- ---- its program says something

  pub greeted_in : (new old : LifeState) → Greeted new old → IsIn d shows (Idle old.generation) AwaitsReady 0 old w → IsFree d shows new w
  greeted_in new old greeted is =
      let becomes : Becomes old.asked new old = record { link = new.link; said = _; turn = AwaitsInvoke; made = greeted.made; calls = calls_greeted old new greeted (λ was. let turns = is.turns in cc (was, turns)) } in
      record {
        at = at_still old.asked becomes is.at;
        last = last_still old.asked becomes is.last;
        going = record { follows = follows_greeted d.setup d.clients old new (own_of w) greeted is.going.follows; handed = handed_still old.asked becomes (IsSentFor d w.queue.0 w.desk) (own_of w) is.going.handed };
        does = does_still old.asked becomes w.served.slot.doing is.does;
        turns = ap (λ (l : LifeState). l.turn) greeted.made;
        asked = ap (λ (l : LifeState). length (invokes_of l)) greeted.made ∙ is.asked ∙ ap (λ (n : ℕ). n + 0) (sym (ap (λ (l : LifeState). length (finishes_in l.said)) greeted.made ∙ returned_ready old.name old.said));
        room = is.room;
      }

  pub next_in : (new old : LifeState) → Heard next_frame new old → IsIn d shows (Idle old.generation) AwaitsNext 0 old w → IsFree d shows new w
  next_in new old heard is =
      let becomes : Becomes old.asked new old = record { link = new.link; said = _; turn = _; made = heard.made; calls = calls_next old new heard is.turns } in
      record {
        at = at_still old.asked becomes is.at;
        last = last_still old.asked becomes is.last;
        going = record { follows = follows_next d.setup d.clients old new (own_of w) heard is.going.follows; handed = handed_still old.asked becomes (IsSentFor d w.queue.0 w.desk) (own_of w) is.going.handed };
        does = does_still old.asked becomes w.served.slot.doing is.does;
        turns = ap (λ (l : LifeState). l.turn) heard.made ∙ ap (λ (t : Turn). turn_after t next_frame.body) is.turns;
        asked = ap (λ (l : LifeState). length (invokes_of l)) heard.made ∙ is.asked ∙ ap (λ (n : ℕ). n + 0) (sym (ap (λ (l : LifeState). length (finishes_in l.said)) heard.made ∙ returned_next old.said));
        room = is.room;
      }

  -- it said READY, and may fall behind that
  pub ready_in : (link : LinkShows) (old : LifeState) → IsIn d shows (Idle old.generation) AwaitsReady 0 old w → IsIn d shows (Idle old.generation) AwaitsNext 0 (with_said (ready_frame old.name) link old) w
  ready_in link old is = record {
    at = at_still old.asked (record { link = link; said = _; turn = _; made = refl; calls = calls_ready link old is.turns }) is.at;
    last = record { server = is.last.server; named = is.last.named; number = is.last.number };
    going = record {
      follows = record {
        alive = is.going.follows.alive;
        taken = is.going.follows.taken;
        told = is.going.follows.told;
        came = subst (λ (rs : List Finish). EachCame d.setup (ShowsReason d w.desk) rs (came_in old.server.0 old.generation.0 (own_of w))) (sym (finishes_append old.said (ready_frame old.name ∷ []) ∙ append-nil (finishes_in old.said))) is.going.follows.came;
      };
      handed = is.going.handed;
    };
    does = is.does;
    turns = ap (λ (t : Turn). turn_after t (ready_frame old.name).body) is.turns;
    asked = is.asked ∙ ap (λ (rs : List Finish). length rs + 0) (sym (finishes_append old.said (ready_frame old.name ∷ []) ∙ append-nil (finishes_in old.said)));
    room = is.room;
  }

  -- ---- a request is taken and sent

  pub taken_in : (slot' : ServerSlot) (desk' : Desk) (life : LifeState) → Takes d w.queue.0 w.served.slot slot' w.desk desk' → IsFree d shows life w → HasTaken d shows life (at_desk w slot' desk')
  taken_in slot' desk' life takes is =
      let t : Taken = takes.t in
      let g : t.generation ≡ life.generation = takes.generation ∙ ap life_in is.does in
      let number : t.generation.0 ≡ w.served.slot.made = ap (λ h. h.0) g ∙ is.last.number in
      record {
        at = work_on w slot' desk' (Take t ∷ []) life takes.serves (All-cons (OfLife w.served.slot.made) (Take t) [] number (All-nil (OfLife w.served.slot.made)))
            (calm_push w.desk desk' (record { stamp = takes.stamp; event = Take t }) takes.noted takes.seat refl) is.at;
        last = last_on w.name w.served.slot slot' life takes.serves.server takes.serves.made is.last;
        t = t;
        before = (own_of w);
        own = takes.serves.steps.own;
        its = is_its life.server.0 life.generation.0 t.server.0 t.generation.0 (ap (λ s. s.0) takes.server ∙ ap (λ s. s.0) (sym is.last.server)) (ap (λ h. h.0) g);
        going = going_on takes.serves.steps w.queue.0 (own_of w) life is.going;
        entry = takes.entry;
        hand = takes.hand;
        taken = takes.taken;
        does = takes.busy ∙ ap (λ h. Busy h t.request) g;
        turns = is.turns;
        asked = let even = is.asked in omega (arith, even);
        room = is.room;
      }

  module _ (life : LifeState) (has : HasTaken d shows life w) (what : Invocation) (invokes : Invokes w.served.slot.hand what) where
    abbrev f : Frame
    f = next_invoke what.service what.routine what.payload life

    same_entry : (a b : Entry Cargo) → w.served.slot.hand ≡ Some a → w.served.slot.hand ≡ Some b → a ≡ b
    same_entry a b is so = cc (sym is ∙ so)

    -- the request that was taken is handed on by it
    sent_handed : AtEach (IsHanded life.server.0 life.generation.0 (invokes_in (life.asked ++ f ∷ [])) (IsSentFor d w.queue.0 w.desk)) (Take has.t ∷ has.before)
    sent_handed =
        let asked : has.entry.cargo.invocation ≡ what = sym (invokes.sent ∙ ap (λ (e : Entry Cargo). e.cargo.invocation) (same_entry invokes.entry has.entry invokes.in_hand has.hand)) in
        subst (λ (fs : List Frame). AtEach (IsHanded life.server.0 life.generation.0 fs (IsSentFor d w.queue.0 w.desk)) (Take has.t ∷ has.before)) (sym (invokes_push life.asked f refl)) (
          λ its. (what, subst (IsSentFor d w.queue.0 w.desk has.t) asked has.taken.sent, invoke_is life has.before has.t what has.its has.going.follows.taken has.asked),
          handed_wider life.server.0 life.generation.0 (invokes_of life) (f ∷ []) (IsSentFor d w.queue.0 w.desk) (IsSentFor d w.queue.0 w.desk) (λ t what sent. sent) has.before has.going.handed,
        )

    pub sent_in : (new : LifeState) → Invoked f new life → IsIn d shows (Busy new.generation has.t.request) Serving 1 new w
    sent_in new invoked =
        let becomes : Becomes (life.asked ++ f ∷ []) new life = record { link = _; said = life.said; turn = Serving; made = invoked.made; calls = sent_calls f life has.turns new _ invoked.made } in
        record {
          at = at_still (life.asked ++ f ∷ []) becomes has.at;
          last = last_still (life.asked ++ f ∷ []) becomes has.last;
          going = record {
            follows = subst (Follows d.setup d.clients (ShowsReason d w.desk) new) (sym {A = List Event} has.own) (follows_take d.setup d.clients life new has.before has.t f has.its refl invoked has.going.follows);
            handed = subst (AtEach (IsHanded new.server.0 new.generation.0 (invokes_of new) (IsSentFor d w.queue.0 w.desk))) (sym {A = List Event} has.own) (handed_still (life.asked ++ f ∷ []) becomes (IsSentFor d w.queue.0 w.desk) (Take has.t ∷ has.before) sent_handed);
          };
          does = has.does ∙ ap (λ (l : LifeState). Busy l.generation has.t.request) (sym invoked.made);
          turns = ap (λ (l : LifeState). l.turn) invoked.made;
          asked = ap (λ (l : LifeState). length (invokes_of l)) invoked.made ∙ ap length (invokes_push life.asked f refl) ∙ length-append (invokes_of life) (f ∷ []) ∙ ap (λ (n : ℕ). n + 1) (has.asked ∙ ap (λ (l : LifeState). length (finishes_in l.said)) (sym invoked.made));
          room = has.room;
        }

    -- or it wasn't sent
    pub unsent_dies : (over : Ending) → Unsent f over life → MayDie d shows over w
    unsent_dies over unsent =
        let becomes : Becomes (life.asked ++ f ∷ []) over.life life = record { link = over.life.link; said = life.said; turn = Serving; made = unsent.life; calls = sent_calls f life has.turns over.life over.life.link unsent.life } in
        let serving : over.life.turn ≡ Serving = ap (λ (l : LifeState). l.turn) unsent.life in
        record {
          at = at_still (life.asked ++ f ∷ []) becomes has.at;
          last = last_still (life.asked ++ f ∷ []) becomes has.last;
          handed = subst (AtEach (IsHanded over.life.server.0 over.life.generation.0 (invokes_of over.life) (IsSentFor d w.queue.0 w.desk))) (sym {A = List Event} has.own) (handed_still (life.asked ++ f ∷ []) becomes (IsSentFor d w.queue.0 w.desk) (Take has.t ∷ has.before) sent_handed);
          settles = subst (SettlesBy d w.desk over (own_of w)) (sym has.does) (
            ap (λ (l : LifeState). l.generation) (sym unsent.life),
            λ e ours outcome. subst (λ (l : List Event). Settled d.setup d.clients (ShowsReason d w.desk) over (End e ∷ l)) (sym {A = List Event} has.own) (settles_unsent d.setup d.clients life over has.before has.t e f unsent refl has.its ours outcome has.going.follows),
          );
          dies = death_in over.cause over.life.turn over.written (λ exited. cc (exited, serving)) (λ idle. cc (idle, serving));
          shut = λ idle. cc (idle, serving);
          spent = λ finishing. cc (finishing, serving);
          room = has.room;
        }

  -- ---- its program says nothing more

  pub falls_busy : (old : LifeState) (over : Ending) (turn : Turn) (t : Taken) → Fell over old → IsServed d shows turn t old w → MayDie d shows over w
  falls_busy old over turn t fell served =
      let is = served.busy.is in
      let becomes : Becomes old.asked over.life old = link_becomes fell.life in
      let same : over.life.turn ≡ turn = ap (λ (l : LifeState). l.turn) fell.life ∙ is.turns in
      let acts : (over.life.turn ≡ Serving) ⊎ (over.life.turn ≡ Finishing) = acting_turn over.life.turn (ap is_acting same ∙ served.acts) in
      record {
        at = at_still old.asked becomes is.at;
        last = last_still old.asked becomes is.last;
        handed = handed_still old.asked becomes (IsSentFor d w.queue.0 w.desk) (own_of w) is.going.handed;
        settles = subst (SettlesBy d w.desk over (own_of w)) (sym is.does) (
          ap (λ (l : LifeState). l.generation) (sym fell.life),
          λ e ours outcome. settles_lost d.setup d.clients old over (own_of w) e fell (acting_held old.turn (ap is_acting is.turns ∙ served.acts)) ours outcome is.going.follows,
        );
        dies = death_in over.cause over.life.turn over.written (λ exited. elim acts [ inl serving ↦ cc (exited, serving) | inr finishing ↦ cc (exited, finishing) ]) (λ idle. elim acts [ inl serving ↦ cc (idle, serving) | inr finishing ↦ cc (idle, finishing) ]);
        shut = λ idle. elim acts [ inl serving ↦ cc (idle, serving) | inr finishing ↦ cc (idle, finishing) ];
        spent = λ finishing. served.spent (sym same ∙ finishing);
        room = is.room;
      }

  pub falls_idle : (old : LifeState) (over : Ending) (turn : Turn) → (turn ≡ AwaitsReady) ⊎ (turn ≡ AwaitsNext) → Fell over old → IsIn d shows (Idle old.generation) turn 0 old w → MayDie d shows over w
  falls_idle old over turn reads fell is =
      let becomes : Becomes old.asked over.life old = link_becomes fell.life in
      let same : over.life.turn ≡ turn = ap (λ (l : LifeState). l.turn) fell.life ∙ is.turns in
      record {
        at = at_still old.asked becomes is.at;
        last = last_still old.asked becomes is.last;
        handed = handed_still old.asked becomes (IsSentFor d w.queue.0 w.desk) (own_of w) is.going.handed;
        settles = subst (SettlesBy d w.desk over (own_of w)) (sym is.does) (ap (λ (l : LifeState). l.generation) (sym fell.life), settles_fallen d.setup d.clients old over (own_of w) fell (ap is_held is.turns ∙ greeting_free turn reads) is.going.follows);
        dies = death_in over.cause over.life.turn over.written (λ exited. elim reads [ inl r ↦ cc (r, same, exited) | inr n ↦ cc (n, same, exited) ]) (λ idle. elim reads [ inl r ↦ cc (r, same, idle) | inr n ↦ cc (n, same, idle) ]);
        shut = λ idle. elim reads [ inl r ↦ cc (r, same, idle) | inr n ↦ cc (n, same, idle) ];
        spent = λ finishing. elim reads [ inl r ↦ cc (r, same, finishing) | inr n ↦ cc (n, same, finishing) ];
        room = is.room;
      }

  pub falls_greeting : (old : LifeState) (over : Ending) → FellGreeting over old → IsIn d shows (Idle old.generation) AwaitsReady 0 old w → MayDie d shows over w
  falls_greeting old over (inl fell) is = falls_idle old over AwaitsReady (inl refl) fell is
  falls_greeting old over (inr fell) is = falls_idle (with_said (ready_frame old.name) over.life.link old) over AwaitsNext (inr refl) fell (ready_in over.life.link old is)

  -- or it wasn't told to end
  pub shut_dies : (old : LifeState) (over : Ending) → ShutDown over old → (over.cause ≡ causes.Shutdown → ⊥) → SawAtQueue d w.queue.0 w.desk (IsShut d.setup w.queue.0) → IsFree d shows old w → MayDie d shows over w
  shut_dies old over shut unshut saw is =
      let becomes : Becomes old.asked over.life old = link_becomes shut.life in
      let same : over.life.turn ≡ AwaitsInvoke = ap (λ (l : LifeState). l.turn) shut.life ∙ is.turns in
      record {
        at = at_still old.asked becomes is.at;
        last = last_still old.asked becomes is.last;
        handed = handed_still old.asked becomes (IsSentFor d w.queue.0 w.desk) (own_of w) is.going.handed;
        settles = subst (SettlesBy d w.desk over (own_of w)) (sym is.does) (ap (λ (l : LifeState). l.generation) (sym shut.life), settles_shut d.setup d.clients old over (own_of w) shut is.turns is.going.follows);
        dies = death_in over.cause over.life.turn over.written (λ exited. cc (exited, same)) (λ idle. unshut);
        shut = λ idle. saw;
        spent = λ finishing. cc (finishing, same);
        room = is.room;
      }

  -- ---- it returns or forwards

  -- the service is done with the request, and the server is idle
  pub finished_in : (new old : LifeState) (request : RequestId) (from : Turn) (back : Finish) (turn : Turn) (event : Event) (slot' : ServerSlot) (desk' : Desk) → Heard (finish_frame (tag_of old) back) new old → is_acting from ≡ true → IsIn d shows (Busy old.generation request) from 1 old w
      → turn_after Serving (finish_frame (tag_of old) back).body ≡ turn → ComesTo d.setup (ShowsReason d desk') back (record { event = event; before = own_of w }) → ends_by event false ≡ false → IsDoneBy d w.queue.0 event w.served.slot slot' w.desk desk'
      → IsIn d shows (Idle new.generation) turn 0 new (at_desk w slot' desk')
  finished_in new old request from back turn event slot' desk' heard acts is turns comes ends done =
      let serves = done.serves in
      let slot : ServerSlot = w.served.slot in
      let lived : life_in slot.doing ≡ old.generation = ap life_in is.does in
      let ours : is_of old.server.0 old.generation.0 event ≡ true =
      ap (λ (s : ServerId). is_of s.0 old.generation.0 event) is.last.server ∙ ap (λ (g : Generation). is_of slot.server.0 g.0 event) (sym lived) ∙ done.its in
      let becomes : Becomes old.asked new old = finish_becomes back heard (ap is_acting is.turns ∙ acts) in
      let at = work_on w slot' desk' (event ∷ []) old serves (All-cons (OfLife slot.made) event [] (of_number event (finished_event d.setup (ShowsReason d desk') back event (own_of w) comes) ours is.last.number) (All-nil (OfLife slot.made)))
      (calm_push w.desk desk' (record { stamp = done.stamp; event = event }) done.noted done.seat ends) is.at in
      let last = last_on w.name slot slot' old serves.server serves.made is.last in
      record {
        at = at_still old.asked becomes at;
        last = last_still old.asked becomes last;
        going = record {
          follows = subst (Follows d.setup d.clients (ShowsReason d desk') new) (sym {A = List Event} serves.steps.own)
              (follows_done d.setup d.clients (ShowsReason d desk') old new (own_of w) event back (tag_of old) ours heard comes (going_on serves.steps w.queue.0 (own_of w) old is.going).follows);
          handed = subst (AtEach (IsHanded new.server.0 new.generation.0 (invokes_of new) (IsSentFor d w.queue.0 desk'))) (sym {A = List Event} serves.steps.own)
              (finished_handed event (finished_event d.setup (ShowsReason d desk') back event (own_of w) comes), handed_still old.asked becomes (IsSentFor d w.queue.0 desk') (own_of w) (handed_led old.server.0 old.generation.0 d w.queue.0 w.desk desk' (invokes_of old) (own_of w) serves.steps.leads is.going.handed));
        };
        does = done.idle ∙ ap Idle lived ∙ ap (λ (l : LifeState). Idle l.generation) (sym heard.made);
        turns = ap (λ (l : LifeState). l.turn) heard.made ∙ ap (λ (t : Turn). turn_after t (finish_frame (tag_of old) back).body) is.turns ∙ acting_after from (tag_of old) back acts ∙ turns;
        asked = ap (λ (l : LifeState). length (invokes_of l)) heard.made ∙ is.asked ∙ sym (ap (λ (l : LifeState). length (finishes_in l.said)) heard.made ∙ returned_push old.said (tag_of old) back) ∙ add_none (returned new);
        room = is.room;
      }
    where
      add_none : (n : ℕ) → n ≡ n + 0
      add_none n = omega arith

      finished_handed : (e : Event) → IsFinishing e → IsHanded new.server.0 new.generation.0 (invokes_of new) (IsSentFor d w.queue.0 desk') e (own_of w)
      finished_handed (End e) its = tt
      finished_handed (Forward f) its = tt
      finished_handed _ its = absurd its

      -- it is of the life with that number
      of_number : (e : Event) → IsFinishing e → is_of old.server.0 old.generation.0 e ≡ true → old.generation.0 ≡ w.served.slot.made → OfLife w.served.slot.made e
      of_number (End e) its ours number = its_generation e.server.0 e.generation.0 old.server.0 old.generation.0 ours ∙ number
      of_number (Forward f) its ours number = its_generation f.server.0 f.generation.0 old.server.0 old.generation.0 ours ∙ number
      of_number _ its ours number = absurd its

  pub returned_in : (new old : LifeState) (request : RequestId) (from : Turn) (value : Rval) (code : ℤ) (payload : Data) (conns : List RequestId) (closing : Closing) (slot' : ServerSlot) (desk' : Desk) → Heard (return_frame (tag_of old) value code payload) new old → is_acting from ≡ true → IsIn d shows (Busy old.generation request) from 1 old w
      → conns ≡ [] → Leads d w.desk desk' → desk'.caller.seat ≡ w.desk.caller.seat → IsServing d w.queue.0 slot' desk' → Finishes (return_by d.setup conns value code payload) closing slot' w.served.slot desk'.caller.work w.desk.caller.work
      → IsIn d shows (Idle new.generation) (turn_behind value) 0 new (at_desk w slot' desk') × (is_exit value ≡ true → slot'.last ≡ lasts.Badly) × ToldBefore desk'
  returned_in new old request from value code payload conns closing slot' desk' heard acts is none leads seat serving finishes =
      let ended = return_done w value code payload conns closing slot' desk' leads seat is.at.serving serving finishes in
      let back : Finish = Returns (record { value = value; code = code; payload = payload }) in
      let ends : ends_by (End ended.0) false ≡ false = ap (λ (o : Outcome). is_lost o || false) ended.2 ∙ keeps_life d.setup conns value code payload in (
        finished_in new old request from back (turn_behind value) (End ended.0) slot' desk' heard acts is refl (ended.2 ∙ return_is d.setup conns value code payload none) ends ended.1,
        λ exits. ap (λ (s : ServerSlot). s.last) finishes.left ∙ ap (λ (s : ServerSlot). s.last) finishes.ends.left ∙ exits_badly d.setup conns value code payload exits,
        calm_before w.desk desk' (record { stamp = ended.1.stamp; event = End ended.0 }) ended.1.noted ended.1.seat ends is.at.told,
      )

  -- the request went on, or its forward failed
  pub forwarded_in : (new old : LifeState) (request : RequestId) (from : Turn) (forward : Onward) (closing : Option Closing) (slot' : ServerSlot) (desk' : Desk) → Heard (forward_frame (tag_of old) forward.service forward.payload) new old → is_acting from ≡ true → IsIn d shows (Busy old.generation request) from 1 old w
      → Passes d w.queue.0 forward.service forward.payload closing w.served.slot slot' w.desk desk' → IsIn d shows (Idle new.generation) AwaitsNext 0 new (at_desk w slot' desk')
  forwarded_in new old request from forward closing slot' desk' heard acts is passes =
      finished_in new old request from (Forwards forward) AwaitsNext passes.event slot' desk' heard acts is refl passes.by (keeps_on (ShowsReason d desk') forward.service forward.payload passes.event (own_of w) passes.by) passes.done

  -- and may have to be cut then
  pub heard_hands : (new old : LifeState) (f : Frame) {doing : Doing} {turn : Turn} {n : ℕ} (slot' : ServerSlot) (desk' : Desk) → Heard f new old → IsIn d shows doing turn n old w → Steps d [] w.desk desk' → slot'.server ≡ w.served.slot.server → HandsOn d w.queue.0 slot'.server.0 desk' new
  heard_hands new old f slot' desk' heard is steps server =
      let hands : HandsOn d w.queue.0 slot'.server.0 desk' old = subst (λ s. HandsOn d w.queue.0 s.0 desk' old) (sym server) (hands_led steps (in_hands is)) in
      subst (HandsOn d w.queue.0 slot'.server.0 desk') (sym heard.made) (record { taken = hands.taken; handed = hands.handed })

  pub heard_cut : (new old : LifeState) (f : Frame) {doing : Doing} {turn : Turn} {n : ℕ} (slot' : ServerSlot) (desk' : Desk) → Heard f new old → IsIn d shows doing turn n old w → Steps d [] w.desk desk' → slot'.server ≡ w.served.slot.server → IsSound new → IsCut w.name slot'.server.0 (theirs desk'.caller.work) (cut_short new)
  heard_cut new old f slot' desk' heard is steps server sound = record {
    cut_off = cut_sound new sound;
    its = ap (λ (l : LifeState). l.server.0) heard.made ∙ ap (λ s. s.0) (is.last.server ∙ sym server);
    named = ap (λ (l : LifeState). l.name) heard.made ∙ is.last.named;
    alive = ap (λ (l : LifeState). count (stops_life slot'.server.0 l.generation.0) (theirs desk'.caller.work)) heard.made ∙ ap (count (stops_life slot'.server.0 old.generation.0)) steps.own ∙ ap (λ s. count (stops_life s.0 old.generation.0) (own_of w)) server ∙ in_alive is;
  }

  pub in_turn : {doing : Doing} {turn turn' : Turn} {n : ℕ} {life : LifeState} → turn ≡ turn' → IsIn d shows doing turn n life w → IsIn d shows doing turn' n life w
  in_turn {doing} {turn} {turn'} {n} {life} same is = subst (λ (t : Turn). IsIn d shows doing t n life w) same is

  -- its life ends by that

  pub exits_off : (life : LifeState) (over : Ending) (kept : Served L T) (slot' : ServerSlot) (desk' : Desk) (stamp : Stamp) → IsIn d shows (Idle life.generation) Exited 0 life w → ToldBefore w.desk → Exits over life → IsOver over → kept.lives.items ≡ w.served.lives.items ++ over ∷ [] → kept.starter ≡ w.served.starter
      → Leads d w.desk desk' → desk'.caller.seat ≡ w.desk.caller.seat → IsServing d w.queue.0 slot' desk' → Stops causes.Exit stamp slot' w.served.slot desk'.caller.work w.desk.caller.work → IsOff d shows (at_kept w kept slot' desk')
  exits_off life over kept slot' desk' stamp is untold exits ended lives starter leads seat serving stopped =
      let turn : over.life.turn ≡ Exited = ap (λ (l : LifeState). l.turn) exits.life ∙ is.turns in
      let becomes : Becomes life.asked over.life life = link_becomes (exits_made exits) in
      record {
        at = stops_idle w over (at_still life.asked becomes is.at) (last_still life.asked becomes is.last) ended
            (handed_still life.asked becomes (IsSentFor d w.queue.0 w.desk) (own_of w) is.going.handed) kept lives starter slot' desk' leads seat serving causes.Exit stamp (sym exits.cause) (ap life_in is.does ∙ ap (λ (l : LifeState). l.generation) (sym exits.life))
            (settles_exited d.setup d.clients life over (own_of w) exits is.turns is.going.follows) (λ idle. cc (idle, turn)) (λ finishing. cc (finishing, turn)) (told_last ⊥ desk' (leads_behind w.desk desk' leads seat untold)) stopped;
        off = ap (λ (s : ServerSlot). s.doing) stopped.left;
        up = ap (λ (s : ServerSlot). s.shut) stopped.left;
      }

  pub exits_worn : (life : LifeState) (over : Ending) (kept : Served L T) (slot' : ServerSlot) (desk' : Desk) → IsIn d shows (Idle life.generation) Exited 0 life w → Exits over life → IsOver over → kept.lives.items ≡ w.served.lives.items ++ over ∷ [] → kept.starter ≡ w.served.starter
      → Leads d w.desk desk' → desk'.caller.seat ≡ w.desk.caller.seat → IsServing d w.queue.0 slot' desk' → (worn : Worn) (stopped : Stopped) → stopped ≡ stop_by worn → IsWorn worn w.desk.caller.work → slot' ≡ w.served.slot → desk'.caller.work ≡ w.desk.caller.work → HasEnded d shows (Some stopped) (at_kept w kept slot' desk')
  exits_worn life over kept slot' desk' is exits ended lives starter leads seat serving worn stopped by full same work =
      let becomes : Becomes life.asked over.life life = link_becomes (exits_made exits) in
      worn_still w over (at_still life.asked becomes is.at) (last_still life.asked becomes is.last) ended (handed_still life.asked becomes (IsSentFor d w.queue.0 w.desk) (own_of w) is.going.handed) kept lives starter slot' desk' leads seat serving worn stopped by full same work (subst (λ (l : LifeState). TookEach w.served.slot.server.0 (own_of w) l) (sym exits.life) (in_took is))

  pub shuts_worn : (life : LifeState) (over : Ending) (kept : Served L T) (slot' : ServerSlot) (desk' : Desk) → IsFree d shows life w → ShutDown over life → IsOver over → kept.lives.items ≡ w.served.lives.items ++ over ∷ [] → kept.starter ≡ w.served.starter
      → Leads d w.desk desk' → desk'.caller.seat ≡ w.desk.caller.seat → IsServing d w.queue.0 slot' desk' → (worn : Worn) (stopped : Stopped) → stopped ≡ stop_by worn → IsWorn worn w.desk.caller.work → slot' ≡ w.served.slot → desk'.caller.work ≡ w.desk.caller.work → HasEnded d shows (Some stopped) (at_kept w kept slot' desk')
  shuts_worn life over kept slot' desk' is shut ended lives starter leads seat serving worn stopped by full same work =
      let becomes : Becomes life.asked over.life life = link_becomes shut.life in
      worn_still w over (at_still life.asked becomes is.at) (last_still life.asked becomes is.last) ended (handed_still life.asked becomes (IsSentFor d w.queue.0 w.desk) (own_of w) is.going.handed) kept lives starter slot' desk' leads seat serving worn stopped by full same work (subst (λ (l : LifeState). TookEach w.served.slot.server.0 (own_of w) l) (sym shut.life) (in_took is))

  -- or it was told to end

  pub shuts_down : (life : LifeState) (over : Ending) (kept : Served L T) (slot' : ServerSlot) (desk' : Desk) (stamp : Stamp) → IsFree d shows life w → ShutDown over life → IsOver over → causes.Shutdown ≡ over.cause → kept.lives.items ≡ w.served.lives.items ++ over ∷ [] → kept.starter ≡ w.served.starter
      → Leads d w.desk desk' → desk'.caller.seat ≡ w.desk.caller.seat → IsServing d w.queue.0 slot' desk' → SawAtQueue d w.queue.0 w.desk (IsShut d.setup w.queue.0) → Stops causes.Shutdown stamp slot' w.served.slot desk'.caller.work w.desk.caller.work → HasEnded d shows None (at_kept w kept slot' desk')
  shuts_down life over kept slot' desk' stamp is shut ended why lives starter leads seat serving saw stopped =
      let becomes : Becomes life.asked over.life life = link_becomes shut.life in
      let waited : over.life.turn ≡ AwaitsInvoke = ap (λ (l : LifeState). l.turn) shut.life ∙ is.turns in
      let now = at_still life.asked becomes is.at in
      let last = last_still life.asked becomes is.last in
      let handed = handed_still life.asked becomes (IsSentFor d w.queue.0 w.desk) (own_of w) is.going.handed in
      let told = stop_told w over now last ended handed kept lives starter slot' desk' leads seat serving causes.Shutdown stamp refl stopped in
      let at = stops_idle w over now last ended handed kept lives starter slot' desk' leads seat serving causes.Shutdown stamp why
      (ap life_in is.does ∙ ap (λ (l : LifeState). l.generation) (sym shut.life)) (settles_shut d.setup d.clients life over (own_of w) shut is.turns is.going.follows) (λ idle. saw) (λ finishing. cc (finishing, waited)) (told_last ⊥ desk' told) stopped in
      let server = ap (λ (s : ServerSlot). s.server) stopped.left in
      let off : slot'.doing ≡ Off = ap (λ (s : ServerSlot). s.doing) stopped.left in
      ends_done (at_kept w kept slot' desk') at (off_hand slot'.doing off serving.stands.hand) (inl (shut_read serving (ap (λ (s : ServerSlot). s.shut) stopped.left), queue_stays d w.desk desk' leads w.queue.0 (IsShut d.setup w.queue.0) saw))
    where
      off_hand : (doing : Doing) → doing ≡ Off → InHand doing slot'.hand → slot'.hand ≡ None
      off_hand doing off hand = subst (λ (x : Doing). InHand x slot'.hand) off hand
