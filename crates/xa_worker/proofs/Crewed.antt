-- Workers that were joined are a crew.
use Rattle.std.proofs.Common.{◌≡◌, ℕ, zero, suc, ◌+◌, ◌<◌, Bool, List, [], ◌∷◌, length, inl, inr, refl, sym, ◌∙◌, ap, subst, arith}
use Rattle.std.specs.List.{All, filter}
use Rattle.std.proofs.lemmas.Bool.{cases_Bool, cases_lt}
use Rattle.std.proofs.lemmas.Option.{slice_get_past}
use Rattle.std.proofs.lemmas.List.Elements.{All-nil, All-cons}
use Rattle.xa_types.specs.declared.setup.Setup.{Setup}
use Rattle.xa_types.specs.declared.stamp.Stamp.{Stamp}
use Rattle.xa_types.specs.declared.ids.CallerId.{CallerId}
use Rattle.xa_types.specs.Setup.{numbered}
use Rattle.xa_events.specs.Homes.{Home}
use Rattle.xa_events.specs.Homes.Home.{BoardHome, QueueHome, ClockHome, CallerHome}
use Rattle.xa_stamp.specs.declared.home.Stamped.{Stamped}
use Rattle.xa_stamp.specs.Home.{Rises}
use Rattle.xa_lock.specs.declared.makers.Made.{Made}
use Rattle.xa_lock.specs.declared.pass.Page.{Page}
use Rattle.xa_lock.specs.Pages.{StartsWith, entries_by}
use Rattle.xa_lock.specs.Makers.{maker_of, noted_in, made_by}
use Rattle.xa_worker.specs.Crew.{no_stamp, stands_at, IsHomeOf, IsCrew}
use Rattle.xa_worker.specs.Ending.{list_in, kept_at, HasPage, seen_at, IsJoined, workers_of, AllJoined}
use Rattle.xa_worker.proofs.Lists.{filter-yes, filter-no}
use Rattle.xa_worker.proofs.Growing.{noted_made, seen_noted, work_stays}
use Rattle.xa_worker.proofs.Ending.{own_theirs}

-- stamps that rise do so in a part

rises-lower : (low high : Stamp) (xs : List Stamped) → low.0 < high.0 → Rises high xs → Rises low xs
rises-lower low high [] le rises = omega (arith, le, rises)
rises-lower low high (x ∷ xs) le rises = (omega (arith, le, rises.0), rises.1)

rises-filter : (p : Stamped → Bool) (low : Stamp) (xs : List Stamped) → Rises low xs → Rises low (filter p xs)
rises-filter p low [] rises = rises
rises-filter p low (x ∷ xs) rises =
    let rest = rises-filter p x.stamp xs rises.1 in
    let first : low.0 < x.stamp.0 = rises.0 in
    elim (cases_Bool (p x)) [
      | inl y ↦ subst (Rises low) (sym (filter-yes p x xs y)) (first, rest)
      | inr n ↦ subst (Rises low) (sym (filter-no p x xs n)) (rises-lower low x.stamp (filter p xs) first rest)
    ]

all_made : (caller : CallerId) (workers : ℕ) (xs : List Stamped) → caller.0 < workers → All (λ entry. maker_of entry < workers) (made_by caller xs)
all_made caller workers [] low = All-nil (λ entry. maker_of entry < workers)
all_made caller workers (x ∷ xs) low = All-cons (λ entry. maker_of entry < workers) (record { maker = caller; noted = x }) (made_by caller xs) low (all_made caller workers xs low)

nothing_past : {X : Type 0} (number : ℕ) (xs : List (List X)) → length xs < number → list_in (numbered number xs) ≡ []
nothing_past zero xs high = refl
nothing_past (suc k) xs high = ap list_in (slice_get_past xs k (omega (arith, high)))

none_home : (workers : ℕ) → IsHomeOf workers []
none_home workers = record { first = no_stamp; rises = omega arith; made = All-nil (λ (entry : Made). maker_of entry < workers) }

module _ (setup : Setup) (clients : ℕ) (board clock : List Made) (queues : List (List Made)) (own : List (List Stamped)) (noted : ℕ → List Stamped) (all_callers : length own ≡ clients + length setup.servers) (all : AllJoined setup clients board clock queues own noted) where
  abbrev kept : Home → List Made
  kept home = kept_at board clock queues own home

  abbrev workers : ℕ
  workers = workers_of setup clients

  caller_home : (caller : ℕ) → IsHomeOf workers (kept (CallerHome caller))
  caller_home caller =
      let made : CallerId = record { 0 = caller } in
      let its = list_in (numbered caller own) in
      elim (cases_lt caller workers) [
        | inl low ↦
            let joined = all.joined caller low in
            let rises : Rises no_stamp its = subst (Rises no_stamp) (sym joined.at_own) (rises-filter (stands_at setup clients (CallerHome caller)) no_stamp (noted caller) joined.work.rises) in
            record { first = no_stamp; rises = subst (Rises no_stamp) (sym (noted_made made its)) rises; made = all_made made workers its low }
        | inr high ↦ subst (IsHomeOf workers) (sym (ap (made_by made) (nothing_past caller own (omega (arith, high, all_callers))))) (none_home workers)
      ]

  each_home : (home : Home) → IsHomeOf workers (kept home)
  each_home BoardHome = all.at_board
  each_home (QueueHome queue) = all.at_queue queue
  each_home ClockHome = all.at_clock
  each_home (CallerHome caller) = caller_home caller

  -- the worker's entries at a lock are what it noted there
  at_lock : (worker : ℕ) (home : Home) (entries : List Made) (page : Page Made) → HasPage setup clients worker home entries (noted worker) page → noted_in (entries_by maker_of worker entries) ≡ filter (stands_at setup clients home) (noted worker)
  at_lock worker home entries page has = ap (λ w. noted_in (entries_by maker_of w entries)) (sym has.maker) ∙ (ap noted_in has.knows.0 ∙ has.own)

  each_theirs : (worker : ℕ) → worker < workers → (home : Home) → noted_in (entries_by maker_of worker (kept home)) ≡ filter (stands_at setup clients home) (noted worker)
  each_theirs worker low BoardHome = at_lock worker BoardHome board _ (all.joined worker low).at_board
  each_theirs worker low (QueueHome queue) = at_lock worker (QueueHome queue) (list_in (numbered queue queues)) _ ((all.joined worker low).at_queue queue)
  each_theirs worker low ClockHome = at_lock worker ClockHome clock _ (all.joined worker low).at_clock
  each_theirs worker low (CallerHome caller) =
      let joined = all.joined worker low in
      own_theirs setup clients (record { 0 = caller }) worker (list_in (numbered caller own)) (noted worker) joined.work.may
      (λ same. subst (λ (c : ℕ). list_in (numbered c own) ≡ filter (stands_at setup clients (CallerHome c)) (noted worker)) same joined.at_own)

  -- what a worker's pages have seen are fronts
  fronts : (worker : ℕ) (joined : IsJoined setup clients all.last board clock queues own worker (noted worker)) (home : Home) → StartsWith (noted_in (kept home)) (seen_at joined.board_page joined.clock_page joined.queue_page home)
  fronts worker joined BoardHome = seen_noted board joined.board_page.seen joined.at_board.knows.1
  fronts worker joined (QueueHome queue) = seen_noted (list_in (numbered queue queues)) (joined.queue_page queue).seen (joined.at_queue queue).knows.1
  fronts worker joined ClockHome = seen_noted clock joined.clock_page.seen joined.at_clock.knows.1
  fronts worker joined (CallerHome caller) = (noted_in (kept (CallerHome caller)), refl)

  pub joined_are_crew : IsCrew setup clients workers (kept_at board clock queues own) noted
  joined_are_crew = record {
    last = all.last;
    homes = each_home;
    booted = all.booted;
    work = λ worker low. let joined = all.joined worker low in work_stays setup clients (seen_at joined.board_page joined.clock_page joined.queue_page) (λ home. noted_in (kept home)) (fronts worker joined) all.last worker (noted worker) joined.work;
    told = all.told;
    theirs = each_theirs;
  }
