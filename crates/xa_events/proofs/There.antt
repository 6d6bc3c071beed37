-- A request that is at a queue waits there, and one that is at a server is in its hand; so where every queue is empty and every server is off, each
-- request that was accepted was settled.
use Rattle.std.proofs.Common.{◌≡◌, ◌⊎◌, ℕ, zero, suc, ◌+◌, ◌<◌, ◌==◌, if◌then◌else◌, true, false, not, List, [], ◌∷◌, length, Option, Some, None, inl, inr, refl, sym, ◌∙◌, ap, subst, arith, eq-eqb, eqb-true}
use Rattle.std.proofs.lemmas.Bool.{cases_Bool, cond_both, or_left, or_right, and_from}
use Rattle.std.proofs.lemmas.Option.{cond_some, slice_get_within}
use Rattle.xa_types.specs.declared.ids.RequestId.{RequestId}
use Rattle.xa_types.specs.declared.ids.Generation.{Generation}
use Rattle.xa_types.specs.declared.setup.Setup.{Setup}
use Rattle.xa_types.specs.Setup.{numbered, capacity_in, capacity_of, queue_in, queue_of}
use Rattle.xa_events.specs.declared.event.Event.{Event}
use Rattle.xa_events.specs.declared.event.Event.TheVariants.{Accept, Take, Forward, Sweep, Start, StartFailed, End, Stop}
use Rattle.xa_events.specs.declared.event.Doing.TheVariants.{Busy}
use Rattle.xa_events.specs.Words.{count, has, added, without, same_request}
use Rattle.xa_events.specs.State.{State, noted, opening}
use Rattle.xa_events.specs.Queue.{comes_in, goes_out, waiting}
use Rattle.xa_events.specs.Server.{doing, doing_after, moves_server, was_shut_down, is_gone}
use Rattle.xa_events.specs.Request.{is_accept_of, is_settled_by}
use Rattle.xa_events.specs.Cases.{Case}
use Rattle.xa_events.specs.Laws.{LawOfServers}
use Rattle.xa_events.proofs.WordsLemmas.{same_request_is, same_request_of, latest_yes, latest_no, has_added, has_without}
use Rattle.xa_events.proofs.Stages.{Stage, moves, stage_by, stage, Agree, Counted}
use Rattle.xa_events.proofs.Stages.Stage.{Unknown, Waits, Held, Over}

-- ---- what is kept and doesn't go out is there still

out_cases : (out : Option RequestId) (r : RequestId) → (out ≡ Some r) ⊎ (out ≡ Some r → ⊥)
out_cases None r = inr (λ e. cc e)
out_cases (Some a) r =
    elim (cases_Bool (same_request a r)) [
      | inl same ↦ inl (ap Some (same_request_is a r same))
      | inr n ↦ inr (λ e. let same = same_request_of a r (cc e) in cc (same, n))
    ]

kept_added : (new : Option RequestId) (rs : List RequestId) (r : RequestId) → has r rs ≡ true → has r (added new rs) ≡ true
kept_added None rs r h = h
kept_added (Some a) rs r h = has_added r a rs ∙ or_left (has r rs) (same_request r a) h

pub still_there : (new out : Option RequestId) (rs : List RequestId) (r : RequestId) → has r rs ≡ true → (out ≡ Some r → ⊥) → has r (added new (without out rs)) ≡ true
still_there new None rs r h apart = kept_added new rs r h
still_there new (Some out) rs r h apart =
    let other : same_request r out ≡ false = elim (cases_Bool (same_request r out)) [ inl same ↦ absurd (apart (ap Some (sym (same_request_is r out same)))) | inr n ↦ n ] in
    kept_added new (without (Some out) rs) r (has_without r out rs ∙ and_from (not (same_request r out)) (has r rs) (ap not other) h)

pub now_there : (rs : List RequestId) (r : RequestId) → has r (added (Some r) rs) ≡ true
now_there rs r = has_added r r rs ∙ or_right (has r rs) (same_request r r) (same_request_of r r refl)

-- ---- what a server does behind one event more

doing_yes : (server : ℕ) (e : Event) (past : List Event) → moves_server server e ≡ true → doing server (e ∷ past) ≡ doing_after (Some e)
unfolding doing
doing_yes server e past h = ap doing_after (latest_yes (moves_server server) e past h)

doing_no : (server : ℕ) (e : Event) (past : List Event) → moves_server server e ≡ false → doing server (e ∷ past) ≡ doing server past
unfolding doing
doing_no server e past h = ap doing_after (latest_no (moves_server server) e past h)

-- ---- where a request is

pub record There (s : State) : Type 0 where
  pub waits : (queue : ℕ) (r : RequestId) → stage r s.past ≡ Waits queue → has r (waiting s.setup queue s.past) ≡ true
  pub held : (server : ℕ) (r : RequestId) → stage r s.past ≡ Held server → (generation : Generation) × (doing server s.past ≡ Busy generation r)
  pub queues : (queue : ℕ) (r : RequestId) → stage r s.past ≡ Waits queue → 0 < capacity_of s.setup queue
  pub servers : (server : ℕ) (r : RequestId) → stage r s.past ≡ Held server → 0 < capacity_of s.setup (queue_of s.setup server)

pub there_none : (setup : Setup) (clients : ℕ) → There (opening setup clients)
unfolding stage
there_none setup clients = record { waits = λ queue r h. absurd (cc h); held = λ server r h. absurd (cc h); queues = λ queue r h. absurd (cc h); servers = λ server r h. absurd (cc h) }

-- what goes out of a queue moves
out_moves : (setup : Setup) (queue : ℕ) (e : Event) (r : RequestId) → goes_out setup queue e ≡ Some r → moves r e ≡ true
out_moves setup queue (Take t) r h = same_request_of t.request r (cond_some (queue_of setup t.server.0 == queue) t.request r h).1
out_moves setup queue (Sweep x) r h = same_request_of x.request r (cond_some (x.queue.0 == queue) x.request r h).1
out_moves setup queue _ r h = absurd (cc h)

-- what moves a request to a queue puts it there
put_there : (s : State) (e : Event) (r : RequestId) (queue : ℕ) → Case s e → moves r e ≡ true → stage_by e ≡ Waits queue → (comes_in queue e ≡ Some r) × (0 < capacity_of s.setup queue)
put_there s (Accept a) r queue case m is =
    let at : a.queue.0 ≡ queue = cc is in
    let room = case.home.room in
    let some : 0 < capacity_of s.setup a.queue.0 = omega (arith, room) in
    (ap (λ b. if b then Some a.request else None) (eq-eqb a.queue.0 queue at) ∙ ap Some (same_request_is a.request r m), subst (λ (q : ℕ). 0 < capacity_of s.setup q) at some)
put_there s (Forward f) r queue case m is =
    let at : f.queue.0 ≡ queue = cc is in
    let room = case.home.room in
    let some : 0 < capacity_of s.setup f.queue.0 = omega (arith, room) in
    (ap (λ b. if b then Some f.request else None) (eq-eqb f.queue.0 queue at) ∙ ap Some (same_request_is f.request r m), subst (λ (q : ℕ). 0 < capacity_of s.setup q) at some)
put_there s _ r queue case m is = absurd (cc is)

-- what moves a request to a server is that server's take
taken_there : (s : State) (e : Event) (r : RequestId) (server : ℕ) → Case s e → Agree s → There s → moves r e ≡ true → stage_by e ≡ Held server
    → ((generation : Generation) × (doing server (e ∷ s.past) ≡ Busy generation r)) × (0 < capacity_of s.setup (queue_of s.setup server))
taken_there s (Take t) r server case agree there m is =
    let by : t.server.0 ≡ server = cc is in
    let same = same_request_is t.request r m in
    let waits = agree.waits (queue_of s.setup t.server.0) t.request case.home.waits in
    let known = there.queues (queue_of s.setup t.server.0) t.request waits in
    ((t.generation, doing_yes server (Take t) s.past (eq-eqb t.server.0 server by) ∙ ap (Busy t.generation) same), subst (λ (n : ℕ). 0 < capacity_of s.setup (queue_of s.setup n)) by known)
taken_there s _ r server case agree there m is = absurd (cc is)

-- a server that is busy with a request goes on with it till the request moves
goes_on : (s : State) (e : Event) (r : RequestId) (server : ℕ) (generation : Generation) → Case s e → doing server s.past ≡ Busy generation r → moves r e ≡ false → moves_server server e ≡ true → ⊥
goes_on s (Take t) r server generation case busy n y = cc (busy, ap (λ k. doing k s.past) (eqb-true t.server.0 server y), case.worker.idle)
goes_on s (Forward f) r server generation case busy n y =
    let both : Busy f.generation f.request ≡ Busy generation r = sym case.worker.busy ∙ (ap (λ k. doing k s.past) (eqb-true f.server.0 server y) ∙ busy) in
    let same : f.request ≡ r = cc both in
    let is = same_request_of f.request r same in
    cc (is, n)
goes_on s (Start b) r server generation case busy n y = cc (busy, ap (λ k. doing k s.past) (eqb-true b.server.0 server y), case.worker.off)
goes_on s (StartFailed b) r server generation case busy n y = cc (busy, ap (λ k. doing k s.past) (eqb-true b.server.0 server y), case.worker.off)
goes_on s (End e) r server generation case busy n y =
    let both : Busy e.generation e.request ≡ Busy generation r = sym case.worker.busy ∙ (ap (λ k. doing k s.past) (eqb-true e.server.0 server y) ∙ busy) in
    let same : e.request ≡ r = cc both in
    let is = same_request_of e.request r same in
    cc (is, n)
goes_on s (Stop x) r server generation case busy n y =
    let at = ap (λ k. doing k s.past) (eqb-true x.server.0 server y) in
    elim case.worker.alive [ inl i ↦ cc (busy, at, i.0) | inr d ↦ cc (busy, at, d.0) ]
goes_on s _ r server generation case busy n y = absurd (cc y)

pub there_more : (s : State) (e : Event) → Case s e → Agree s → There s → There (noted s e)
unfolding stage waiting
there_more s e case agree there = record {
  waits = λ queue r. cond_both (moves r e) (stage_by e) (stage r s.past) (λ x. x ≡ Waits queue → has r (waiting s.setup queue (e ∷ s.past)) ≡ true)
      (λ m is. let p = put_there s e r queue case m is in
      ap (λ o. has r (added o (without (goes_out s.setup queue e) (waiting s.setup queue s.past)))) p.0 ∙ now_there (without (goes_out s.setup queue e) (waiting s.setup queue s.past)) r)
      (λ n is. still_there (comes_in queue e) (goes_out s.setup queue e) (waiting s.setup queue s.past) r (there.waits queue r is) (λ out. let m = out_moves s.setup queue e r out in cc (m, n)));
  held = λ server r. cond_both (moves r e) (stage_by e) (stage r s.past) (λ x. x ≡ Held server → (generation : Generation) × (doing server (e ∷ s.past) ≡ Busy generation r))
      (λ m is. (taken_there s e r server case agree there m is).0)
      (λ n is. let old = there.held server r is in
      elim (cases_Bool (moves_server server e)) [
        | inl y ↦ absurd (goes_on s e r server old.0 case old.1 n y)
        | inr apart ↦ (old.0, doing_no server e s.past apart ∙ old.1)
      ]);
  queues = λ queue r. cond_both (moves r e) (stage_by e) (stage r s.past) (λ x. x ≡ Waits queue → 0 < capacity_of s.setup queue) (λ m is. (put_there s e r queue case m is).1) (λ n is. there.queues queue r is);
  servers = λ server r. cond_both (moves r e) (stage_by e) (stage r s.past) (λ x. x ≡ Held server → 0 < capacity_of s.setup (queue_of s.setup server)) (λ m is. (taken_there s e r server case agree there m is).1) (λ n is. there.servers server r is);
}

-- ---- where all is empty and off, all was settled

within : {X : Type 0} (n : ℕ) (xs : List X) (x : X) → numbered n xs ≡ Some x → (0 < n) × (n < length xs + 1)
within zero xs x h = absurd (cc h)
within (suc n) xs x h = let low = slice_get_within xs n x h in (omega arith, omega (arith, low))

some_or_none : {X : Type 0} (o : Option X) → (o ≡ None) ⊎ ((x : X) × (o ≡ Some x))
some_or_none None = inl refl
some_or_none (Some x) = inr (x, refl)

pub known_queue : (setup : Setup) (queue : ℕ) → 0 < capacity_of setup queue → (0 < queue) × (queue < length setup.queues + 1)
known_queue setup queue some =
    elim (some_or_none (numbered queue setup.queues)) [
      | inl none ↦ let zero_room : capacity_of setup queue ≡ 0 = ap capacity_in none in absurd (omega (arith, some, zero_room))
      | inr q ↦ within queue setup.queues q.0 q.1
    ]

pub known_server : (setup : Setup) (server : ℕ) → 0 < queue_of setup server → (0 < server) × (server < length setup.servers + 1)
known_server setup server some =
    elim (some_or_none (numbered server setup.servers)) [
      | inl none ↦ let nowhere : queue_of setup server ≡ 0 = ap (queue_in setup) none in absurd (omega (arith, some, nowhere))
      | inr q ↦ within server setup.servers q.0 q.1
    ]

pub all_settled : (s : State) → Agree s → There s → LawOfServers s.past
    → ((queue : ℕ) → 0 < queue → queue < length s.setup.queues + 1 → waiting s.setup queue s.past ≡ [])
    → ((server : ℕ) → 0 < server → server < length s.setup.servers + 1 → (was_shut_down server s.past ≡ true) ⊎ (is_gone server s.past ≡ true))
    → (r : RequestId) → count (is_settled_by r) s.past ≡ count (is_accept_of r) s.past
all_settled s agree there servers empty over r = by_stage (stage r s.past) refl (agree.counts r)
  where
    by_stage : (x : Stage) → stage r s.past ≡ x → Counted r s.past x → count (is_settled_by r) s.past ≡ count (is_accept_of r) s.past
    by_stage Unknown is c = c.2 ∙ sym c.0
    by_stage (Waits queue) is c =
        let known = known_queue s.setup queue (there.queues queue r is) in
        let none : has r [] ≡ true = sym (ap (has r) (empty queue known.0 known.1)) ∙ there.waits queue r is in
        absurd (cc none)
    by_stage (Held server) is c =
        let known = known_server s.setup server (known_queue s.setup (queue_of s.setup server) (there.servers server r is)).0 in
        let off = servers server (over server known.0 known.1) in
        let busy = (there.held server r is).1 in
        absurd (cc (off, busy))
    by_stage Over is c = c.2 ∙ sym c.0
