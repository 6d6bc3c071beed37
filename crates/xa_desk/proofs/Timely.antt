-- The least tick that a worker may still read, with more events.
use Rattle.std.proofs.Common.{◌≡◌, ◌≤◌, ℕ, Bool, true, false, List, [], ◌∷◌, ◌++◌, Option, Some, None, if◌then◌else◌, sym, subst, arith}
use Rattle.std.specs.Prelude.{IfSome}
use Rattle.std.specs.List.{All, filter_map}
use Rattle.std.proofs.lemmas.List.Elements.{All-head, All-tail, All-weaker}
use Rattle.xa_server.specs.xa_types.declared.ids.CallerId.{CallerId}
use Rattle.xa_server.specs.xa_types.declared.setup.Setup.{Setup}
use Rattle.xa_server.specs.xa_events.declared.event.Event.{Event}
use Rattle.xa_server.specs.xa_events.declared.event.Event.TheVariants.{Tick, Start, StartFailed, Lapse, Refuse}
use Rattle.xa_server.specs.xa_events.Caller.{tick_in, ticks, tick_floor}
use Rattle.xa_server.specs.xa_events.Homes.{Home, home_of, of_worker}
use Rattle.xa_server.specs.xa_events.Homes.Home.{BoardHome, QueueHome}
use Rattle.xa_server.specs.xa_events.Local.{worker_events}
use Rattle.xa_server.proofs.xa_events.WordsLemmas.{greatest_one_more}
use Rattle.xa_server.specs.xa_stamp.declared.home.Stamped.{Stamped}
use Rattle.xa_server.specs.xa_worker.Seen.{past_in}
use Rattle.xa_server.specs.xa_worker.Work.{WorkState, theirs}
use Rattle.xa_server.proofs.xa_worker.Lists.{past_in-append}
use Rattle.xa_desk.proofs.OwnQueue.{all_past}

-- a tick that the worker read or made by the event is no greater than that
abbrev pub IsTimely : ℕ → ℕ → ℕ → Stamped → Type 0
IsTimely clients worker most x = IfSome (tick_in clients worker x.event) (λ tick. tick ≤ most)

module _ (clients worker most : ℕ) where
  abbrev Timely : Event → Type 0
  Timely e = IfSome (tick_in clients worker e) (λ tick. tick ≤ most)

  bound_by : (o : Option ℕ) → IfSome o (λ tick. tick ≤ most) → (n : ℕ) → o ≡ Some n → n ≤ most
  bound_by (Some tick) low n same = let is : tick ≡ n = cc same in omega (arith, low, is)
  bound_by None low n same = absurd (cc same)

  floor_one : (e : Event) (past : List Event) → Timely e → tick_floor clients worker past ≤ most → tick_floor clients worker (e ∷ past) ≤ most
  unfolding ticks
  floor_one e past timely floor = greatest_one_more (filter_map (tick_in clients worker) past) (tick_in clients worker e) 0 most (bound_by (tick_in clients worker e) timely) floor

  floor_more : (more past : List Event) → All Timely more → tick_floor clients worker (worker_events clients worker past) ≤ most → tick_floor clients worker (worker_events clients worker (more ++ past)) ≤ most
  floor_more [] past timely floor = floor
  floor_more (e ∷ more) past timely floor =
      let rest = floor_more more past (All-tail Timely e more timely) floor in
      by (of_worker clients worker e) rest
    where
      by : (b : Bool) → tick_floor clients worker (worker_events clients worker (more ++ past)) ≤ most → tick_floor clients worker (if b then e ∷ worker_events clients worker (more ++ past) else worker_events clients worker (more ++ past)) ≤ most
      by true rest = floor_one e (worker_events clients worker (more ++ past)) (All-head Timely e more timely) rest
      by false rest = rest

-- so the least tick stays no greater than that
pub floor_stays : (w w' : WorkState) (most : ℕ) (more : List Stamped) → w'.clients ≡ w.clients → w'.id ≡ w.id → w'.own ≡ w.own ++ more → All (IsTimely w.clients w.id.0 most) more → tick_floor w.clients w.id.0 (theirs w) ≤ most → tick_floor w'.clients w'.id.0 (theirs w') ≤ most
floor_stays w w' most more clients id own timely floor =
    let Low : ℕ → CallerId → List Stamped → Type 0 = λ n i l. tick_floor n i.0 (worker_events n i.0 (past_in l)) ≤ most in
    let here : Low w.clients w.id (w.own ++ more) =
    subst (λ (past : List Event). tick_floor w.clients w.id.0 (worker_events w.clients w.id.0 past) ≤ most) (sym (past_in-append w.own more))
    (floor_more w.clients w.id.0 most (past_in more) (past_in w.own) (all_past (Timely w.clients w.id.0 most) more timely) floor) in
    subst (λ n. Low n w'.id w'.own) (sym clients) (subst (λ i. Low w.clients i w'.own) (sym id) (subst (Low w.clients w.id) (sym {A = List Stamped} own) here))

-- ---- events that name no tick

abbrev IsAside : Home → Type 0
IsAside BoardHome = Unit {0}
IsAside (QueueHome queue) = Unit {0}
IsAside home = ⊥

-- none of the board or of a queue does
timely_one : (setup : Setup) (k clients worker most : ℕ) (home : Home) → IsAside home → (e : Event) → home_of setup k e ≡ home → IfSome (tick_in clients worker e) (λ tick. tick ≤ most)
timely_one setup k clients worker most home aside (Tick t) at = absurd (subst IsAside (sym at) aside)
timely_one setup k clients worker most home aside (Start s) at = absurd (subst IsAside (sym at) aside)
timely_one setup k clients worker most home aside (StartFailed s) at = absurd (subst IsAside (sym at) aside)
timely_one setup k clients worker most home aside (Lapse l) at = absurd (subst IsAside (sym at) aside)
timely_one setup k clients worker most home aside (Refuse r) at = absurd (subst IsAside (sym at) aside)
timely_one setup k clients worker most home aside _ at = tt

pub timely_at : (setup : Setup) (k clients worker most : ℕ) (home : Home) → IsAside home → (more : List Stamped) → All (λ (x : Stamped). home_of setup k x.event ≡ home) more → All (IsTimely clients worker most) more
timely_at setup k clients worker most home aside more at = All-weaker (λ (x : Stamped). home_of setup k x.event ≡ home) (IsTimely clients worker most) (λ x here. timely_one setup k clients worker most home aside x.event here) more at

-- nor a refusal whose evidence doesn't
pub if_some_if : (b : Bool) (o : Option ℕ) (P : ℕ → Type 0) → IfSome o P → IfSome (if b then o else None) P
if_some_if true o P is = is
if_some_if false o P is = tt
