-- No request is sent to a queue while it waits there, and the queues' order of takes is that of the whole history.
use Rattle.std.proofs.Common.{◌≡◌, ℕ, ◌==◌, ◌&&◌, ◌%◌, if◌then◌else◌, Bool, true, false, cond, List, [], ◌∷◌, Option, Some, None, inl, inr, refl, sym, ◌∙◌, ap, subst, arith, eq-eqb}
use Rattle.std.specs.Prelude.{IfSome, nat_le, slice_get}
use Rattle.std.specs.List.{All, list_all, find}
use Rattle.std.proofs.lemmas.Bool.{cases_Bool, or_left, or_right}
use Rattle.std.proofs.lemmas.List.Elements.{All-nil, All-cons, All-head, All-tail, All-weaker}
use Rattle.xa_types.specs.declared.setup.Setup.{Setup}
use Rattle.xa_types.specs.declared.ids.RequestId.{RequestId}
use Rattle.xa_types.specs.declared.ids.CallerId.{CallerId}
use Rattle.xa_types.specs.Setup.{queue_of}
use Rattle.xa_events.specs.declared.event.Event.{Event}
use Rattle.xa_events.specs.declared.event.Event.TheVariants.{Accept, Forward, Take}
use Rattle.xa_events.specs.Words.{AtEach, has, same_request}
use Rattle.xa_events.specs.Homes.{Home, worker_of, of_worker, home_of, at_home}
use Rattle.xa_events.specs.Homes.Home.{BoardHome, QueueHome, ClockHome, CallerHome}
use Rattle.xa_events.specs.Queue.{comes_in, waiting}
use Rattle.xa_events.specs.Caller.{accepted}
use Rattle.xa_events.specs.Request.{priority_in, priority_at}
use Rattle.xa_events.specs.Order.{next_of, TakesNext, TakesInOrder}
use Rattle.xa_events.specs.Cases.{HomePart, WorkerPart}
use Rattle.xa_events.specs.State.{State}
use Rattle.xa_events.specs.Local.{Local, SeenPart, home_events, worker_events}
use Rattle.xa_events.proofs.WordsLemmas.{same_request_of}
use Rattle.xa_events.proofs.Merge.{AtEach-rest, AtEach-here, same_home-self, worker_whole, waiting_own, local_rest, local_run}
use Rattle.xa_events.proofs.Stages.{Stage, stage, Agree}
use Rattle.xa_events.proofs.Stages.Stage.{Unknown, Waits, Held}
use Rattle.xa_events.proofs.LastEntry.{Placed, IsKnown}
use Rattle.xa_worker.specs.Seen.{IsNew}
use Rattle.xa_worker.specs.Orders.{MetIfNew}
use Rattle.xa_worker.proofs.Lists.{filter-yes, filter-no}
use Rattle.xa_worker.proofs.Before.{NewIn}

-- each event met its worker's part among all events
pub parts_whole : (setup : Setup) (clients : ℕ) (past : List Event) → ((worker : ℕ) → AtEach (WorkerPart setup clients) (worker_events clients worker past)) → AtEach (WorkerPart setup clients) past
parts_whole setup clients [] workers = tt
parts_whole setup clients (e ∷ past) workers = (
  worker_whole setup clients past e (AtEach-here (of_worker clients (worker_of clients e)) (WorkerPart setup clients) e past (eq-eqb (worker_of clients e) (worker_of clients e) refl) (workers (worker_of clients e))),
  parts_whole setup clients past (λ worker. AtEach-rest (of_worker clients worker) (WorkerPart setup clients) e past (workers worker)),
)

-- ---- a request that is sent to a queue doesn't wait there

if_there : {X : Type 0} (b : Bool) (x : X) (P : X → Type 0) → P x → IfSome (if b then Some x else None) P
if_there true x P h = h
if_there false x P h = tt

-- a request at another stage waits nowhere
waits_not : (s : State) (queue : ℕ) (r : RequestId) (at : Stage) → Agree s → stage r s.past ≡ at → (Waits queue ≡ at → ⊥) → has r (waiting s.setup queue s.past) ≡ false
waits_not s queue r at agree is apart =
    elim (cases_Bool (has r (waiting s.setup queue s.past))) [
      | inl waits ↦ absurd (apart (sym (agree.waits queue r waits) ∙ is))
      | inr none ↦ none
    ]

new_by_part : (s : State) (queue : ℕ) (e : Event) → Agree s → WorkerPart s.setup s.clients e s.past → IsNew s.setup queue e s.past
new_by_part s queue (Accept a) agree part =
    let count : accepted a.request.caller.0 s.past ≡ accepted a.by.0 s.past = ap (λ (c : CallerId). accepted c.0 s.past) part.caller in
    if_there (a.queue.0 == queue) a.request (λ request. has request (waiting s.setup queue s.past) ≡ false)
    (waits_not s queue a.request Unknown agree (agree.fresh a.request (omega (arith, count, part.number))) (λ h. cc h))
new_by_part s queue (Forward f) agree part =
    if_there (f.queue.0 == queue) f.request (λ request. has request (waiting s.setup queue s.past) ≡ false)
    (waits_not s queue f.request (Held f.server.0) agree (agree.busy f.server.0 f.generation f.request part.busy) (λ h. cc h))
new_by_part s queue _ agree part = tt

abbrev pub IsNoQueue : Home → Type 0
IsNoQueue (QueueHome queue) = ⊥
IsNoQueue _ = Unit {0}

module _ (setup : Setup) (clients : ℕ) where
  -- so each request is new where it is sent, and each queue's events met their parts; what a worker saw of queues rests on that itself, of the events before
  pub all_new_met : (past : List Event) → ((worker : ℕ) → AtEach (WorkerPart setup clients) (worker_events clients worker past)) → ((home : Home) → IsNoQueue home → AtEach (HomePart setup) (home_events setup clients home past))
      → AtEach (λ e before. NewIn setup clients before → SeenPart setup clients e before) past → ((queue : ℕ) → AtEach (MetIfNew setup queue) (home_events setup clients (QueueHome queue) past))
      → Local setup clients past × NewIn setup clients past
  all_new_met [] workers others seen each = (record { homes = λ home. tt; workers = λ worker. tt; before = tt }, λ queue. tt)
  all_new_met (e ∷ past) workers others seen each =
      let old = all_new_met past (λ worker. AtEach-rest (of_worker clients worker) (WorkerPart setup clients) e past (workers worker)) (λ home other. AtEach-rest (at_home setup clients home) (HomePart setup) e past (others home other)) seen.1
      (λ queue. AtEach-rest (at_home setup clients (QueueHome queue)) (MetIfNew setup queue) e past (each queue)) in
      let known = (local_run setup clients past old.0).1 in
      let part = worker_whole setup clients past e (AtEach-here (of_worker clients (worker_of clients e)) (WorkerPart setup clients) e past (eq-eqb (worker_of clients e) (worker_of clients e) refl) (workers (worker_of clients e))) in
      let here : (queue : ℕ) → IsNew setup queue e (home_events setup clients (QueueHome queue) past) =
      λ queue. subst (λ (rs : List RequestId). IfSome (comes_in queue e) (λ request. has request rs ≡ false)) (sym (waiting_own setup clients past queue)) (new_by_part (record { setup = setup; clients = clients; past = past }) queue e known.agree part) in
      let news : NewIn setup clients (e ∷ past) = λ queue. more queue (IsNew setup queue) (here queue) (old.1 queue) in
      let met : (queue : ℕ) → AtEach (HomePart setup) (home_events setup clients (QueueHome queue) (e ∷ past)) =
      λ queue. elim (cases_Bool (at_home setup clients (QueueHome queue) e)) [
        | inl y ↦
            let its = AtEach-here (at_home setup clients (QueueHome queue)) (MetIfNew setup queue) e past y (each queue) in
            more queue (HomePart setup) (its (here queue, old.1 queue)) (old.0.homes (QueueHome queue))
        | inr n ↦ subst (AtEach (HomePart setup)) (sym (filter-no (at_home setup clients (QueueHome queue)) e past n)) (old.0.homes (QueueHome queue))
      ] in
      (record { homes = λ home. whole met home; workers = workers; before = (seen.0 old.1, old.0.before) }, news)
    where
      more : (queue : ℕ) (P : Event → List Event → Type 0) → P e (home_events setup clients (QueueHome queue) past) → AtEach P (home_events setup clients (QueueHome queue) past) → AtEach P (home_events setup clients (QueueHome queue) (e ∷ past))
      more queue P new old = elim (cases_Bool (at_home setup clients (QueueHome queue) e)) [
        | inl y ↦ subst (AtEach P) (sym (filter-yes (at_home setup clients (QueueHome queue)) e past y)) (new, old)
        | inr n ↦ subst (AtEach P) (sym (filter-no (at_home setup clients (QueueHome queue)) e past n)) old
      ]

      whole : ((queue : ℕ) → AtEach (HomePart setup) (home_events setup clients (QueueHome queue) (e ∷ past))) → (home : Home) → AtEach (HomePart setup) (home_events setup clients home (e ∷ past))
      whole met BoardHome = others BoardHome tt
      whole met (QueueHome queue) = met queue
      whole met ClockHome = others ClockHome tt
      whole met (CallerHome caller) = others (CallerHome caller) tt

-- ---- the order of takes

list_all_same : {X : Type 0} (p q : X → Bool) (xs : List X) → All (λ x. p x ≡ q x) xs → list_all p xs ≡ list_all q xs
list_all_same p q [] h = refl
list_all_same p q (x ∷ xs) h = ap (λ b. b && list_all p xs) (All-head (λ x. p x ≡ q x) x xs h) ∙ ap (λ b. q x && b) (list_all_same p q xs (All-tail (λ x. p x ≡ q x) x xs h))

find_same : {X : Type 0} (p q : X → Bool) (xs : List X) → All (λ x. p x ≡ q x) xs → find p xs ≡ find q xs
find_same p q [] h = refl
find_same p q (x ∷ xs) h = ap (λ b. cond b (Some x) (find p xs)) (All-head (λ x. p x ≡ q x) x xs h) ∙ ap (λ o. cond (q x) (Some x) o) (find_same p q xs (All-tail (λ x. p x ≡ q x) x xs h))

next_same : (p q : RequestId → ℕ) (rs : List RequestId) (k : ℕ) → All (λ r. p r ≡ q r) rs → next_of p rs k ≡ next_of q rs k
next_same p q rs k same =
    let beats = λ (r : RequestId). list_all (λ other. nat_le (p other) (p r)) rs in
    let beats' = λ (r : RequestId). list_all (λ other. nat_le (q other) (q r)) rs in
    let each : All (λ r. beats r ≡ beats' r) rs = All-weaker (λ r. p r ≡ q r) (λ r. beats r ≡ beats' r) (λ r is. list_all_same (λ other. nat_le (p other) (p r)) (λ other. nat_le (q other) (q r)) rs
    (All-weaker (λ r. p r ≡ q r) (λ other. nat_le (p other) (p r) ≡ nat_le (q other) (q r)) (λ other its. ap (λ n. nat_le n (p r)) its ∙ ap (nat_le (q other)) is) rs same)) rs same in
    ap (λ (o : Option RequestId). if k % 10 == 0 then slice_get rs 0 else o) (find_same beats beats' rs each)

all_has : (rs : List RequestId) → All (λ r. has r rs ≡ true) rs
all_has [] = All-nil (λ (r : RequestId). has r [] ≡ true)
all_has (r ∷ rs) =
    All-cons (λ x. has x (r ∷ rs) ≡ true) r rs (or_left (same_request r r) (has r rs) (same_request_of r r refl))
    (All-weaker (λ x. has x rs ≡ true) (λ x. has x (r ∷ rs) ≡ true) (λ x h. or_right (same_request x r) (has x rs) h) rs (all_has rs))

module _ (setup : Setup) (clients : ℕ) where
  -- what waits has its last entry at the queue
  same_priority : (past : List Event) → IsKnown (record { setup = setup; clients = clients; past = past }) → (queue : ℕ) (r : RequestId) → has r (waiting setup queue past) ≡ true
      → priority_at (home_events setup clients (QueueHome queue) past) r ≡ priority_at past r
  unfolding priority_at
  same_priority past known queue r waits = ap priority_in (subst (Placed setup clients r past) (known.agree.waits queue r waits) (known.placed r))

  take_whole : (queue : ℕ) (past : List Event) (k : ℕ) (r : RequestId) → IsKnown (record { setup = setup; clients = clients; past = past })
      → next_of (priority_at (home_events setup clients (QueueHome queue) past)) (waiting setup queue (home_events setup clients (QueueHome queue) past)) k ≡ Some r
      → next_of (priority_at past) (waiting setup queue past) k ≡ Some r
  take_whole queue past k r known next =
      let own = home_events setup clients (QueueHome queue) past in
      let same : All (λ x. priority_at own x ≡ priority_at past x) (waiting setup queue past) =
      All-weaker (λ x. has x (waiting setup queue past) ≡ true) (λ x. priority_at own x ≡ priority_at past x) (λ x waits. same_priority past known queue x waits) (waiting setup queue past) (all_has (waiting setup queue past)) in
      sym (next_same (priority_at own) (priority_at past) (waiting setup queue past) k same) ∙ (sym (ap (λ rs. next_of (priority_at own) rs k) (waiting_own setup clients past queue)) ∙ next)

  next_whole : (e : Event) (past : List Event) → IsKnown (record { setup = setup; clients = clients; past = past }) → TakesNext setup e (home_events setup clients (home_of setup clients e) past) → TakesNext setup e past
  next_whole (Take t) past known next = take_whole (queue_of setup t.server.0) past t.k t.request known next
  next_whole _ past known next = tt

  other_next : (e : Event) (past : List Event) → ((queue : ℕ) → AtEach (TakesNext setup) (home_events setup clients (QueueHome queue) (e ∷ past))) → TakesNext setup e (home_events setup clients (home_of setup clients e) past)
  other_next (Take t) past all =
      AtEach-here (at_home setup clients (QueueHome (queue_of setup t.server.0))) (TakesNext setup) (Take t) past (same_home-self (QueueHome (queue_of setup t.server.0))) (all (queue_of setup t.server.0))
  other_next _ past all = tt

  pub order_whole : (past : List Event) → Local setup clients past → ((queue : ℕ) → AtEach (TakesNext setup) (home_events setup clients (QueueHome queue) past)) → TakesInOrder setup past
  order_whole [] l all = tt
  order_whole (e ∷ past) l all =
      let rest = local_rest setup clients e past l in (
        next_whole e past (local_run setup clients past rest).1 (other_next e past all),
        order_whole past rest (λ queue. AtEach-rest (at_home setup clients (QueueHome queue)) (TakesNext setup) e past (all queue)),
      )
