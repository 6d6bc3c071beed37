-- What was due to the program of a life: an INVOKE for each request that was taken, as it was sent last in the run.
use Rattle.std.proofs.Common.{◌≡◌, ℕ, zero, suc, ◌+◌, ◌%◌, ◌^◌, ◌==◌, Bool, true, false, cond, List, [], ◌∷◌, ◌++◌, length, reverse, append-nil, add-one, refl, sym, ◌∙◌, ap, subst, eqb-true}
use Rattle.std.specs.Prelude.{take, drop}
use Rattle.std.proofs.lemmas.Bool.{and_parts}
use Rattle.std.proofs.lemmas.List.Elements.{filter-append}
use Rattle.xa_client_worker.specs.xa_types.Setup.{queue_of}
use Rattle.xa_client_worker.specs.xa_events.declared.event.Event.{Event}
use Rattle.xa_client_worker.specs.xa_events.declared.event.Event.TheVariants.{Take}
use Rattle.xa_client_worker.specs.xa_events.declared.event.Taken.{Taken}
use Rattle.xa_client_worker.specs.xa_events.Homes.{of_worker}
use Rattle.xa_client_worker.specs.xa_events.Homes.Home.{QueueHome}
use Rattle.xa_client_worker.specs.xa_events.Local.{worker_events}
use Rattle.xa_client_worker.specs.xa_events.Request.{sent_as}
use Rattle.xa_client_worker.specs.xa_events.State.{caller_of}
use Rattle.xa_client_worker.specs.xa_events.Words.{AtEach, count}
use Rattle.xa_client_worker.proofs.xa_events.Merge.{AtEach-here}
use Rattle.xa_client_worker.specs.xa_stamp.Home.{Notes}
use Rattle.xa_client_worker.specs.xa_stamp.Merge.{IsMerged}
use Rattle.xa_client_worker.proofs.xa_worker.Lists.{AtEach-later}
use Rattle.xa_client_worker.specs.xa_held.declared.cargo.Invocation.{Invocation}
use Rattle.xa_client_worker.specs.xa_frame.declared.frame.Frame.{Frame}
use Rattle.xa_client_worker.specs.xa_pipe.Following.{IsSent}
use Rattle.xa_client_worker.specs.xa_pipe.Frames.{is_of_life, is_take_in, invocation}
use Rattle.xa_client_worker.specs.xa_pipe.Pipe.{invoke_frame}
use Rattle.xa_client_worker.specs.xa_pipe.Standing.{LifeState, invokes_of}
use Rattle.xa_client_worker.specs.xa_worker.Work.{WorkState, theirs}
use Rattle.xa_client_worker.specs.xa_desk.declared.domain.Domain.{Domain}
use Rattle.xa_client_worker.specs.xa_desk.declared.desk.Desk.{Desk}
use Rattle.xa_client_worker.specs.xa_desk.Whole.{entries_of}
use Rattle.xa_client_worker.specs.xa_desk.Serving.{WasSentFor, IsSentFor}
use Rattle.xa_server_worker.specs.Lives.{IsHanded, HandsOn}
use Rattle.xa_history.specs.Joined.{Back, whole_of}
use Rattle.xa_history.specs.Ended.{ServerEnd, Ends}
use Rattle.xa_history.specs.Served.{invokes_in, IsAsked as HasAsked}
use Rattle.xa_history.proofs.Going.{one_goes_on}
use Rattle.xa_history.proofs.Entries.{AtEach-splits}
use Rattle.xa_history.proofs.Requests.{asked_before}
use Rattle.xa_history.proofs.Readings.{of_life, taken_own}
use Rattle.xa_history.proofs.Sent.{IsAsked, asked_frame}
use Rattle.xa_history.proofs.Shown.{Shown}

-- ---- what was due for a take

take_next : (n : ℕ) (fs : List Frame) → take n fs ++ take 1 (drop n fs) ≡ take (suc n) fs
take_next zero fs = refl
take_next (suc n) [] = refl
take_next (suc n) (f ∷ fs) = ap (λ (gs : List Frame). f ∷ gs) (take_next n fs)

take_whole : (fs : List Frame) → take (length fs) fs ≡ fs
take_whole [] = refl
take_whole (f ∷ fs) = ap (λ (gs : List Frame). f ∷ gs) (take_whole fs)

-- where each take came to the INVOKE at its place among these, so many of them are those of the life
invokes_are : (server g : ℕ) (asked : List Frame) (past : List Event) → AtEach (IsSent server g asked) past → invokes_in server g past ≡ take (count (is_take_in server g) past) asked
invokes_are server g asked [] sent = refl
invokes_are server g asked (Take t ∷ past) sent = by_one (is_of_life server g t.server.0 t.generation.0) refl (invokes_are server g asked past sent.1)
  where
    by_one : (b : Bool) → is_of_life server g t.server.0 t.generation.0 ≡ b → invokes_in server g past ≡ take (count (is_take_in server g) past) asked
        → invokes_in server g (Take t ∷ past) ≡ take (count (is_take_in server g) (Take t ∷ past)) asked
    by_one true is before = rw is (ap (λ (fs : List Frame). invokes_in server g past ++ fs) (sent.0 is)
        ∙ (ap (λ (fs : List Frame). fs ++ take 1 (drop (count (is_take_in server g) past) asked)) before
        ∙ (take_next (count (is_take_in server g) past) asked ∙ ap (λ (n : ℕ). take n asked) (sym (add-one (count (is_take_in server g) past))))))
    by_one false is before = rw is (append-nil (invokes_in server g past) ∙ before)
invokes_are server g asked (e ∷ past) sent = append-nil (invokes_in server g past) ∙ invokes_are server g asked past sent.1

module _ (clients server g : ℕ) (asked : List Frame) where
  abbrev its : List Event → List Event
  its past = worker_events clients (caller_of clients server) past

  same_number : (t : Taken) (before : List Event) → invocation server g (Take t ∷ its before) ≡ invocation server g (Take t ∷ before)
  unfolding invocation
  same_number t before = ap (λ (n : ℕ). cond (is_of_life server g t.server.0 t.generation.0) (n + 1) n % 2 ^ 32) (taken_own clients server g before)

  -- a take that was handed on with what its request was sent for came to its INVOKE
  handed_sent : (Sent : Taken → Invocation → Type 0) (t : Taken) (before : List Event) → ((what : Invocation) → Sent t what → IsAsked what (sent_as t.request before)) → IsHanded server g asked Sent (Take t) (its before) → IsSent server g asked (Take t) before
  handed_sent Sent t before said handed of_life =
      let h = handed of_life in
      let what = h.0 in
      asked_frame what (invocation server g (Take t ∷ before)) (sent_as t.request before) (said what h.1)
      ∙ (sym (ap (λ (n : ℕ). invoke_frame what.service what.routine n what.payload ∷ []) (same_number t before))
      ∙ (sym h.2 ∙ ap (λ (n : ℕ). take 1 (drop n asked)) (taken_own clients server g before)))

module _ (d : Domain) (b : Back) (domain : WorkState) (desks : List Desk) (servers : List ServerEnd) (homes : List Notes) (Whole : Type 0) (ends : Ends d b domain desks servers homes Whole) (events : List Event) (merged : IsMerged homes events) where
  abbrev past : List Event
  past = reverse events

  module _ (server : ℕ) (end : ServerEnd) (shows : Shown d b domain desks servers homes Whole ends events merged server end) where
    abbrev queue : ℕ
    queue = queue_of d.setup server

    abbrev worker : ℕ
    worker = caller_of d.clients server

    abbrev own : List Event
    own = theirs shows.desk.caller.work

    module _ (g : ℕ) (asked : List Frame) (handed : AtEach (IsHanded server g asked (IsSentFor d queue shows.desk)) own) where
      abbrev Handed : Event → List Event → Type 0
      Handed = IsHanded server g asked (IsSentFor d queue shows.desk)

      handed_at : (front before : List Event) (e : Event) → past ≡ front ++ e ∷ before → of_worker d.clients worker e ≡ true → Handed e (worker_events d.clients worker before)
      handed_at front before e split mine =
          let parted : own ≡ worker_events d.clients worker front ++ worker_events d.clients worker (e ∷ before) = sym shows.own ∙ (ap (worker_events d.clients worker) split ∙ filter-append (of_worker d.clients worker) front (e ∷ before)) in
          AtEach-here (of_worker d.clients worker) Handed e before mine (AtEach-later Handed (worker_events d.clients worker front) (worker_events d.clients worker (e ∷ before)) (subst (AtEach Handed) parted handed))

      asked_at : (t : Taken) (front before : List Event) → past ≡ front ++ Take t ∷ before → is_of_life server g t.server.0 t.generation.0 ≡ true → (what : Invocation) → IsSentFor d queue shows.desk t what → IsAsked what (sent_as t.request before)
      asked_at t front before split is what sent =
          let its : queue ≡ queue_of d.setup t.server.0 = sym (ap (queue_of d.setup) (eqb-true t.server.0 server (and_parts (t.server.0 == server) (t.generation.0 == g) is).0)) in
          asked_before d b domain desks ends.left homes events ends.homes_are merged t front before split what
          (subst (λ (q : ℕ). WasSentFor d.setup q (entries_of (whole_of d b) (QueueHome q)) t what) its (sent (whole_of d b) (one_goes_on d b domain desks ends.left worker shows.desk shows.there)))

      sent_at : (front before : List Event) (e : Event) → past ≡ front ++ e ∷ before → IsSent server g asked e before
      sent_at front before (Take t) split = λ is.
          handed_sent d.clients server g asked (IsSentFor d queue shows.desk) t before (asked_at t front before split is) (handed_at front before (Take t) split (of_life d.clients server g (Take t) is)) is
      sent_at front before _ split = tt

      -- so each take came to its INVOKE in the run
      pub takes_sent : AtEach (IsSent server g asked) past
      takes_sent = AtEach-splits (IsSent server g asked) past sent_at

    -- and just these were due
    pub life_asked : (life : LifeState) → HandsOn d queue server shows.desk life → HasAsked server past life
    life_asked life hands =
        let g : ℕ = life.generation.0 in
        let invokes : List Frame = invokes_of life in
        let takes : count (is_take_in server g) past ≡ length invokes = sym (taken_own d.clients server g past) ∙ (ap (count (is_take_in server g)) shows.own ∙ hands.taken) in
        sym (invokes_are server g invokes past (takes_sent g invokes hands.handed) ∙ (ap (λ (n : ℕ). take n invokes) takes ∙ take_whole invokes))
