-- Where a request is, and that its queue, its server and its counts agree on that.
use Rattle.std.proofs.Common.{◌≡◌, ℕ, ◌+◌, ◌<◌, ◌≤◌, ◌||◌, ◌==◌, if◌then◌else◌, Bool, true, false, cond, List, [], ◌∷◌, Some, None, inl, inr, refl, sym, ◌∙◌, ap, subst, arith, eq-eqb, eqb-true, lt_of_le_of_lt}
use Rattle.std.specs.Prelude.{slice_get}
use Rattle.std.proofs.lemmas.Bool.{cond_both, cond-true, or_left}
use Rattle.std.proofs.lemmas.Option.{cond_some}
use Rattle.xa_types.specs.declared.ids.RequestId.{RequestId}
use Rattle.xa_types.specs.declared.ids.Generation.{Generation}
use Rattle.xa_types.specs.declared.setup.Setup.{Setup}
use Rattle.xa_types.specs.Setup.{queue_of}
use Rattle.xa_events.specs.declared.event.Event.{Event}
use Rattle.xa_events.specs.declared.event.Event.TheVariants.{Accept, Take, Forward, Sweep, End}
use Rattle.xa_events.specs.declared.event.Doing.TheVariants.{Busy}
use Rattle.xa_events.specs.declared.event.Outcome.{Outcome}
use Rattle.xa_events.specs.declared.event.Outcome.TheVariants.{Died}
use Rattle.xa_events.specs.Words.{count, has, same_request}
use Rattle.xa_events.specs.State.{State, noted, opening}
use Rattle.xa_events.specs.Queue.{comes_in, goes_out, waiting}
use Rattle.xa_events.specs.Server.{moves_server, after_end, doing_after, doing}
use Rattle.xa_events.specs.Caller.{accepts_for, accepted}
use Rattle.xa_events.specs.Request.{is_accept_of, is_take_of, is_forward_of, is_end_of, is_sweep_of, is_settled_by}
use Rattle.xa_events.specs.Cases.{Case}
use Rattle.xa_events.specs.Run.{Run}
use Rattle.xa_events.specs.Laws.{moves_on, OnceInTurn}
use Rattle.xa_events.proofs.WordsLemmas.{same_request_is, same_request_of, count_yes, count_grows, kept_before}
use Rattle.xa_events.proofs.Servers.{doing_both}

-- what each event that may come next keeps, a run keeps
pub along : (P : State → Type 0) → ((s : State) (e : Event) → Case s e → P s → P (noted s e)) → (es : List Event) (s new : State) → P s → Run s es new → P new
along P step [] s new h run = subst P (sym run) h
along P step (e ∷ es) s new h run = along P step es (noted s e) new (step s e run.0 h) run.1

pub data Stage : Type 0 where
  Unknown : Stage
  Waits : (queue : ℕ) → Stage
  Held : (server : ℕ) → Stage
  Over : Stage

-- the event moves the request
abbrev pub moves : RequestId → Event → Bool
moves r (Accept a) = same_request a.request r
moves r (Take t) = same_request t.request r
moves r (Forward f) = same_request f.request r
moves r (Sweep x) = same_request x.request r
moves r (End e) = same_request e.request r
moves r _ = false

abbrev pub stage_by : Event → Stage
stage_by (Accept a) = Waits a.queue.0
stage_by (Take t) = Held t.server.0
stage_by (Forward f) = Waits f.queue.0
stage_by _ = Over

-- where the request is, by the last event that moves it
unfoldable pub stage : RequestId → List Event → Stage
stage r [] = Unknown
stage r (e ∷ past) = cond (moves r e) (stage_by e) (stage r past)

-- an event that moves a request needs it at that stage
abbrev pub Found : Setup → Event → Stage → Type 0
Found setup (Accept a) Unknown = Unit {0}
Found setup (Take t) (Waits queue) = queue_of setup t.server.0 ≡ queue
Found setup (Forward f) (Held server) = f.server.0 ≡ server
Found setup (Sweep x) (Waits queue) = x.queue.0 ≡ queue
Found setup (End e) (Held server) = e.server.0 ≡ server
Found setup _ _ = ⊥

-- how often a request at that stage was accepted, taken, forwarded and settled
abbrev pub Counts : Stage → ℕ → ℕ → ℕ → ℕ → Type 0
Counts Unknown accepts takes forwards settled = (accepts ≡ 0) × (takes ≡ forwards) × (settled ≡ 0)
Counts (Waits queue) accepts takes forwards settled = (accepts ≡ 1) × (takes ≡ forwards) × (settled ≡ 0)
Counts (Held server) accepts takes forwards settled = (accepts ≡ 1) × (takes ≡ forwards + 1) × (settled ≡ 0)
Counts Over accepts takes forwards settled = (accepts ≡ 1) × Unit {0} × (settled ≡ 1)

abbrev pub Counted : RequestId → List Event → Stage → Type 0
Counted r past stage = Counts stage (count (is_accept_of r) past) (count (is_take_of r) past) (count (is_forward_of r) past) (count (is_settled_by r) past)

-- a request is accepted and settled once at most
pub at_most_once : (r : RequestId) (past : List Event) (stage : Stage) → Counted r past stage → (count (is_accept_of r) past ≤ 1) × (count (is_settled_by r) past ≤ 1)
at_most_once r past Over c = (omega (arith, c.0), omega (arith, c.2))
at_most_once r past _ c = (omega (arith, c.0), omega (arith, c.2))

-- what the queues, the servers, the callers and the counts say of a request is its stage
pub record Agree (s : State) : Type 0 where
  pub waits : (queue : ℕ) (r : RequestId) → has r (waiting s.setup queue s.past) ≡ true → stage r s.past ≡ Waits queue
  pub busy : (server : ℕ) (generation : Generation) (r : RequestId) → doing server s.past ≡ Busy generation r → stage r s.past ≡ Held server
  pub fresh : (r : RequestId) → accepted r.caller.0 s.past < r.number → stage r s.past ≡ Unknown
  pub counts : (r : RequestId) → Counted r s.past (stage r s.past)

-- nothing is anywhere at first
pub agree_none : (setup : Setup) (clients : ℕ) → Agree (opening setup clients)
unfolding waiting doing stage
agree_none setup clients = record { waits = λ queue r h. cc h; busy = λ server generation r h. cc h; fresh = λ r h. refl; counts = λ r. (refl, refl, refl) }

-- the first of some requests is among them
first_there : (rs : List RequestId) (r : RequestId) → slice_get rs 0 ≡ Some r → has r rs ≡ true
first_there [] r h = absurd (cc h)
first_there (q ∷ rs) r h = let same : r ≡ q = cc h in or_left (same_request r q) (has r rs) (same_request_of r q same)

-- an event that may come next and moves a request finds its stage as it needs it
pub found : (s : State) (e : Event) (r : RequestId) → Case s e → Agree s → moves r e ≡ true → Found s.setup e (stage r s.past)
found s (Accept a) r case agree m =
    let count : accepted a.request.caller.0 s.past ≡ accepted a.by.0 s.past = ap (λ c. accepted c.0 s.past) case.worker.caller in
    rw (← same_request_is a.request r m, agree.fresh a.request (omega (arith, count, case.worker.number))) tt
found s (Take t) r case agree m = rw (← same_request_is t.request r m, agree.waits (queue_of s.setup t.server.0) t.request case.home.waits) refl
found s (Forward f) r case agree m = rw (← same_request_is f.request r m, agree.busy f.server.0 f.generation f.request case.worker.busy) refl
found s (Sweep x) r case agree m =
    rw (← same_request_is x.request r m, agree.waits x.queue.0 x.request (first_there (waiting s.setup x.queue.0 s.past) x.request case.home.oldest)) refl
found s (End e) r case agree m = rw (← same_request_is e.request r m, agree.busy e.server.0 e.generation e.request case.worker.busy) refl
found s _ r case agree m = cc m

-- what goes into a queue waits there
entered : (queue : ℕ) (e : Event) (r : RequestId) → comes_in queue e ≡ Some r → (moves r e ≡ true) × (stage_by e ≡ Waits queue)
entered queue (Accept a) r h = let i = cond_some (a.queue.0 == queue) a.request r h in (same_request_of a.request r i.1, ap Waits (eqb-true a.queue.0 queue i.0))
entered queue (Forward f) r h = let i = cond_some (f.queue.0 == queue) f.request r h in (same_request_of f.request r i.1, ap Waits (eqb-true f.queue.0 queue i.0))
entered queue _ r h = cc h

-- what moves a request that waits takes it out of its queue
left_queue : (setup : Setup) (queue : ℕ) (e : Event) (r : RequestId) → moves r e ≡ true → Found setup e (Waits queue) → goes_out setup queue e ≡ Some r
left_queue setup queue (Take t) r m f = ap (λ b. if b then Some t.request else None) (eq-eqb (queue_of setup t.server.0) queue f) ∙ ap Some (same_request_is t.request r m)
left_queue setup queue (Sweep x) r m f = ap (λ b. if b then Some x.request else None) (eq-eqb x.queue.0 queue f) ∙ ap Some (same_request_is x.request r m)
left_queue setup queue _ r m f = absurd f

not_busy : (outcome : Outcome) (g generation : Generation) (r : RequestId) → after_end outcome g ≡ Busy generation r → ⊥
not_busy Died g generation r h = cc h
not_busy _ g generation r h = cc h

-- a server is busy by its own take
held_by : (server : ℕ) (generation : Generation) (e : Event) (r : RequestId) → moves_server server e ≡ true → doing_after (Some e) ≡ Busy generation r → (moves r e ≡ true) × (stage_by e ≡ Held server)
held_by server generation (Take t) r o h = (same_request_of t.request r (cc h), ap Held (eqb-true t.server.0 server o))
held_by server generation (End e) r o h = absurd (not_busy e.outcome e.generation generation r h)
held_by server generation _ r o h = cc h

-- what moves a request that a server holds is of that server
of_holder : (setup : Setup) (server : ℕ) (e : Event) → Found setup e (Held server) → moves_server server e ≡ true
of_holder setup server (Forward g) f = eq-eqb g.server.0 server f
of_holder setup server (End e) f = eq-eqb e.server.0 server f
of_holder setup server _ f = absurd f

pub accepted_grows : (caller : ℕ) (e : Event) (past : List Event) → accepted caller past ≤ accepted caller (e ∷ past)
unfolding accepted
accepted_grows caller e past = count_grows (accepts_for caller) e past

pub accepted_one : (caller : ℕ) (e : Event) (past : List Event) → accepts_for caller e ≡ true → accepted caller (e ∷ past) ≡ accepted caller past + 1
unfolding accepted
accepted_one caller e past h = count_yes (accepts_for caller) e past h

-- what moves a request that is unknown accepts it
not_fresh : (s : State) (e : Event) (r : RequestId) → Case s e → moves r e ≡ true → Found s.setup e Unknown → accepted r.caller.0 (e ∷ s.past) < r.number → ⊥
not_fresh s (Accept a) r case m f h =
    let g = rw (← same_request_is a.request r m) at h in
    let by = ap (λ c. accepted c.0 (Accept a ∷ s.past)) case.worker.caller in
    omega (arith, g, by, case.worker.number, accepted_one a.by.0 (Accept a) s.past (eq-eqb a.by.0 a.by.0 refl))
not_fresh s _ r case m f h = absurd f

-- the counts behind one event more, and what the law says of it
abbrev pub Next : Stage → RequestId → Event → List Event → Type 0
Next stage r e past = Counted r (e ∷ past) stage
    × (is_accept_of r e ≡ true → count (is_accept_of r) past ≡ 0)
    × (moves_on r e ≡ true → (count (is_accept_of r) past ≡ 1) × (count (is_settled_by r) past ≡ 0))
    × (is_take_of r e || is_sweep_of r e ≡ true → count (is_take_of r) past ≡ count (is_forward_of r) past)
    × (is_forward_of r e || is_end_of r e ≡ true → count (is_take_of r) past ≡ count (is_forward_of r) past + 1)

moved : (setup : Setup) (e : Event) (r : RequestId) (past : List Event) (stage : Stage) → moves r e ≡ true → Found setup e stage → Counted r past stage → Next (stage_by e) r e past
moved setup (Accept a) r past Unknown m f c = rw m ((ap (λ n. n + 1) c.0, c.1, c.2), λ h. c.0, λ h. cc, λ h. cc, λ h. cc)
moved setup (Take t) r past (Waits queue) m f c = rw m ((c.0, ap (λ n. n + 1) c.1, c.2), λ h. cc, λ h. (c.0, c.2), λ h. c.1, λ h. cc)
moved setup (Forward g) r past (Held server) m f c = rw m ((c.0, c.1, c.2), λ h. cc, λ h. (c.0, c.2), λ h. cc, λ h. c.1)
moved setup (Sweep x) r past (Waits queue) m f c = rw m ((c.0, tt, ap (λ n. n + 1) c.2), λ h. cc, λ h. (c.0, c.2), λ h. c.1, λ h. cc)
moved setup (End e) r past (Held server) m f c = rw m ((c.0, tt, ap (λ n. n + 1) c.2), λ h. cc, λ h. (c.0, c.2), λ h. cc, λ h. c.1)
moved setup _ r past _ m f c = absurd f

still : (e : Event) (r : RequestId) (past : List Event) (stage : Stage) → moves r e ≡ false → Counted r past stage → Next stage r e past
still (Accept a) r past stage n c = rw n (c, λ h. cc, λ h. cc, λ h. cc, λ h. cc)
still (Take t) r past stage n c = rw n (c, λ h. cc, λ h. cc, λ h. cc, λ h. cc)
still (Forward f) r past stage n c = rw n (c, λ h. cc, λ h. cc, λ h. cc, λ h. cc)
still (Sweep x) r past stage n c = rw n (c, λ h. cc, λ h. cc, λ h. cc, λ h. cc)
still (End e) r past stage n c = rw n (c, λ h. cc, λ h. cc, λ h. cc, λ h. cc)
still _ r past stage n c = (c, λ h. cc, λ h. cc, λ h. cc, λ h. cc)

next : (s : State) (e : Event) (r : RequestId) → Case s e → Agree s → Next (stage r (e ∷ s.past)) r e s.past
unfolding stage
next s e r case agree =
    cond_both (moves r e) (stage_by e) (stage r s.past) (λ x. Next x r e s.past)
    (λ m. moved s.setup e r s.past (stage r s.past) m (found s e r case agree m) (agree.counts r))
    (λ n. still e r s.past (stage r s.past) n (agree.counts r))

-- a request that the event doesn't move stays at its stage
pub stays : (s : State) (e : Event) (r : RequestId) (old : Stage) → Case s e → Agree s → stage r s.past ≡ old → (moves r e ≡ true → Found s.setup e old → ⊥) → stage r (e ∷ s.past) ≡ old
unfolding stage
stays s e r old case agree is unmoved =
    cond_both (moves r e) (stage_by e) (stage r s.past) (λ x. x ≡ old) (λ m. absurd (unmoved m (subst (Found s.setup e) is (found s e r case agree m)))) (λ n. is)

pub agree_more : (s : State) (e : Event) → Case s e → Agree s → Agree (noted s e)
unfolding waiting stage
agree_more s e case agree = record {
  waits = λ queue r h. elim (kept_before (comes_in queue e) (goes_out s.setup queue e) (waiting s.setup queue s.past) r h) [
    | inl i ↦ let n = entered queue e r i in cond-true (moves r e) (stage_by e) (stage r s.past) n.0 ∙ n.1
    | inr k ↦ stays s e r (Waits queue) case agree (agree.waits queue r k.0) (λ m f. k.1 (left_queue s.setup queue e r m f))
  ];
  busy = λ server generation r. doing_both server e s.past (λ d. d ≡ Busy generation r → stage r (e ∷ s.past) ≡ Held server)
      (λ y h. let n = held_by server generation e r y h in cond-true (moves r e) (stage_by e) (stage r s.past) n.0 ∙ n.1)
      (λ n h. stays s e r (Held server) case agree (agree.busy server generation r h) (λ m f. cc (of_holder s.setup server e f, n)));
  fresh = λ r h. stays s e r Unknown case agree (agree.fresh r (lt_of_le_of_lt (accepted_grows r.caller.0 e s.past) h)) (λ m f. not_fresh s e r case m f h);
  counts = λ r. (next s e r case agree).0;
}

pub ends_law : (s : State) (e : Event) → Case s e → Agree s → OnceInTurn e s.past
ends_law s e case agree =
    let n = λ (r : RequestId). next s e r case agree in
    record { new = λ r. (n r).1; known = λ r h. ((n r).2 h).0; unsettled = λ r h. ((n r).2 h).1; waiting = λ r. (n r).3; held = λ r. (n r).4 }
