-- All homes of a domain, each once.
use Rattle.std.proofs.Common.{◌≡◌, ◌⊎◌, ℕ, zero, suc, ◌+◌, ◌<◌, ◌≤◌, ◌==◌, Bool, false, List, [], ◌∷◌, ◌++◌, length, map, reverse, Some, inl, inr, refl, sym, ◌∙◌, ap, subst, arith, eq-eqb, ne_eqb}
use Rattle.std.specs.Prelude.{slice_get}
use Rattle.std.proofs.lemmas.Bool.{cases_Bool, cases_eq, cases_lt}
use Rattle.std.proofs.lemmas.Option.{slice_get_past}
use Rattle.std.proofs.lemmas.List.{map-append, reverse-reverse}
use Rattle.std.proofs.lemmas.Simd.{map-map}
use Rattle.xa_types.specs.declared.setup.Setup.{Setup}
use Rattle.xa_types.specs.declared.ids.CallerId.{CallerId}
use Rattle.xa_events.specs.declared.event.Event.{Event}
use Rattle.xa_events.specs.State.{opening}
use Rattle.xa_events.specs.Run.{Run}
use Rattle.xa_events.specs.Homes.{Home, same_home}
use Rattle.xa_events.specs.Homes.Home.{BoardHome, QueueHome, ClockHome, CallerHome}
use Rattle.xa_events.proofs.WordsLemmas.{count_yes, count_no}
use Rattle.xa_events.proofs.Merge.{local_is_run}
use Rattle.xa_stamp.specs.declared.home.Stamped.{Stamped}
use Rattle.xa_stamp.specs.Home.{Notes}
use Rattle.xa_stamp.specs.Merge.{IsMerged}
use Rattle.xa_lock.specs.declared.makers.Made.{Made}
use Rattle.xa_lock.specs.Pages.{entries_by}
use Rattle.xa_lock.specs.Makers.{maker_of, noted_in, made_by}
use Rattle.xa_events.specs.Words.{AtEach, count}
use Rattle.xa_events.specs.Cases.{HomePart}
use Rattle.xa_worker.specs.Seen.{past_in}
use Rattle.xa_worker.specs.Crew.{IsCrew, AllMet, AreHomes, MayNote, stands_at}
use Rattle.xa_events.specs.Homes.{numbers_from, all_homes}
use Rattle.xa_worker.specs.Ending.{list_in, kept_at, AreAll}
use Rattle.std.specs.List.{All, filter}
use Rattle.xa_worker.proofs.Lists.{filter-yes, filter-no}
use Rattle.xa_worker.proofs.Growing.{noted_made, others_note_nothing}
use Rattle.xa_worker.specs.Orders.{AllNew, AllMetIfNew}
use Rattle.xa_worker.proofs.Joined.{crew_is_local, each_held, queues_met}
use Rattle.xa_worker.proofs.Merging.{some_merge}

-- ---- how often a home stands among numbered ones

count_append : (p : Home → Bool) (xs ys : List Home) → count p (xs ++ ys) ≡ count p xs + count p ys
count_append p [] ys = omega arith
count_append p (x ∷ xs) ys =
    elim (cases_Bool (p x)) [
      | inl here ↦ omega (arith, count_yes p x (xs ++ ys) here, count_yes p x xs here, count_append p xs ys)
      | inr other ↦ omega (arith, count_no p x (xs ++ ys) other, count_no p x xs other, count_append p xs ys)
    ]

module _ (p : Home → Bool) (f : ℕ → Home) where
  none_numbered : ((k : ℕ) → p (f k) ≡ false) → (first n : ℕ) → count p (map f (numbers_from first n)) ≡ 0
  none_numbered none first zero = refl
  none_numbered none first (suc n) = count_no p (f first) (map f (numbers_from (first + 1) n)) (none first) ∙ none_numbered none (first + 1) n

  module _ (number : ℕ) (is : (k : ℕ) → p (f k) ≡ (number == k)) where
    others_numbered : (first n : ℕ) → (number < first) ⊎ (first + n ≤ number) → count p (map f (numbers_from first n)) ≡ 0
    others_numbered first zero out = refl
    others_numbered first (suc n) (inl low) =
        count_no p (f first) (map f (numbers_from (first + 1) n)) (is first ∙ ne_eqb number first (λ same. omega (arith, same, low))) ∙ others_numbered (first + 1) n (inl (omega (arith, low)))
    others_numbered first (suc n) (inr high) =
        count_no p (f first) (map f (numbers_from (first + 1) n)) (is first ∙ ne_eqb number first (λ same. omega (arith, same, high))) ∙ others_numbered (first + 1) n (inr (omega (arith, high)))

    once_numbered : (first n : ℕ) → first ≤ number → number < first + n → count p (map f (numbers_from first n)) ≡ 1
    once_numbered first zero low high = absurd (omega (arith, low, high))
    once_numbered first (suc n) low high =
        let rest = map f (numbers_from (first + 1) n) in
        elim (cases_eq number first) [
          | inl here ↦ omega (arith, count_yes p (f first) rest (is first ∙ eq-eqb number first here), others_numbered (first + 1) n (inl (omega (arith, here))))
          | inr other ↦ count_no p (f first) rest (is first ∙ ne_eqb number first other) ∙ once_numbered (first + 1) n (omega (arith, low, other)) (omega (arith, high))
        ]

    -- it stands there once, or it has no number there
    numbered_once : (n : ℕ) → (count p (map f (numbers_from 1 n)) ≡ 1) ⊎ ((count p (map f (numbers_from 1 n)) ≡ 0) × ((number ≡ 0) ⊎ (n < number)))
    numbered_once n =
        elim (cases_eq number 0) [
          | inl none ↦ inr (others_numbered 1 n (inl (omega (arith, none))), inl none)
          | inr some ↦
              elim (cases_lt number (1 + n)) [
                | inl low ↦ inl (once_numbered 1 n (omega (arith, some)) low)
                | inr high ↦ inr (others_numbered 1 n (inr high), inr (omega (arith, high)))
              ]
        ]

alike_numbered : {X Y : Type 0} (f : X → Y) (g : ℕ → Y) (first : ℕ) (xs : List X) → ((i : ℕ) (x : X) → slice_get xs i ≡ Some x → f x ≡ g (first + i)) → map f xs ≡ map g (numbers_from first (length xs))
alike_numbered f g first [] each = refl
alike_numbered f g first (x ∷ xs) each =
    let here : first + 0 ≡ first = omega arith in
    ap (λ y. y ∷ map f xs) (each 0 x refl ∙ ap g here)
    ∙ ap (λ ys. g first ∷ ys) (alike_numbered f g (first + 1) xs (λ i y is. let on : first + suc i ≡ first + 1 + i = omega arith in each (suc i) y is ∙ ap g on))

module _ (setup : Setup) (clients : ℕ) (board clock : List Made) (queues : List (List Made)) (own : List (List Stamped)) where
  abbrev kept : Home → List Made
  kept home = kept_at board clock queues own home

  abbrev queue_homes : List Home
  queue_homes = map QueueHome (numbers_from 1 (length setup.queues))

  abbrev caller_homes : List Home
  caller_homes = map CallerHome (numbers_from 1 (clients + length setup.servers))

  split : (home : Home) → count (same_home home) (queue_homes ++ ClockHome ∷ caller_homes) ≡ count (same_home home) queue_homes + count (same_home home) (ClockHome ∷ caller_homes)
  split home = count_append (same_home home) queue_homes (ClockHome ∷ caller_homes)

  -- the home stands there once, or nothing stands at it
  abbrev OnceOrNone : Home → Type 0
  OnceOrNone home = (count (same_home home) (all_homes setup clients) ≡ 1) ⊎ ((count (same_home home) (all_homes setup clients) ≡ 0) × (kept home ≡ []))

  no_queue : (number : ℕ) → (number ≡ 0) ⊎ (length queues < number) → kept (QueueHome number) ≡ []
  no_queue zero out = refl
  no_queue (suc k) (inl none) = absurd (omega (arith, none))
  no_queue (suc k) (inr high) = ap list_in (slice_get_past queues k (omega (arith, high)))

  no_caller : (number : ℕ) → (number ≡ 0) ⊎ (length own < number) → kept (CallerHome number) ≡ []
  no_caller zero out = refl
  no_caller (suc k) (inl none) = absurd (omega (arith, none))
  no_caller (suc k) (inr high) = ap (λ o. made_by (record { 0 = suc k }) (list_in o)) (slice_get_past own k (omega (arith, high)))

  module _ (all_queues : length queues ≡ length setup.queues) (all_callers : length own ≡ clients + length setup.servers) where
    once : (home : Home) → OnceOrNone home
    once BoardHome = inl (omega (arith, split BoardHome, none_numbered (same_home BoardHome) QueueHome (λ k. refl) 1 (length setup.queues), none_numbered (same_home BoardHome) CallerHome (λ k. refl) 1 (clients + length setup.servers)))
    once ClockHome = inl (omega (arith, split ClockHome, none_numbered (same_home ClockHome) QueueHome (λ k. refl) 1 (length setup.queues), none_numbered (same_home ClockHome) CallerHome (λ k. refl) 1 (clients + length setup.servers)))
    once (QueueHome number) =
        let p = same_home (QueueHome number) in
        let others = none_numbered p CallerHome (λ k. refl) 1 (clients + length setup.servers) in
        elim (numbered_once p QueueHome number (λ k. refl) (length setup.queues)) [
          | inl one ↦ inl (omega (arith, split (QueueHome number), one, others))
          | inr none ↦ inr (omega (arith, split (QueueHome number), none.0, others), no_queue number (subst (λ (n : ℕ). (number ≡ 0) ⊎ (n < number)) (sym all_queues) none.1))
        ]
    once (CallerHome number) =
        let p = same_home (CallerHome number) in
        let others = none_numbered p QueueHome (λ k. refl) 1 (length setup.queues) in
        elim (numbered_once p CallerHome number (λ k. refl) (clients + length setup.servers)) [
          | inl one ↦ inl (omega (arith, split (CallerHome number), one, others))
          | inr none ↦ inr (omega (arith, split (CallerHome number), none.0, others), no_caller number (subst (λ (n : ℕ). (number ≡ 0) ⊎ (n < number)) (sym all_callers) none.1))
        ]

    at_most : (home : Home) → OnceOrNone home → count (same_home home) (all_homes setup clients) ≤ 1
    at_most home (inl one) = omega (arith, one)
    at_most home (inr none) = omega (arith, none.0)

    nothing : (home : Home) → OnceOrNone home → count (same_home home) (all_homes setup clients) ≡ 0 → kept home ≡ []
    nothing home (inl one) zero_times = absurd (omega (arith, one, zero_times))
    nothing home (inr none) zero_times = none.1

  abbrev held : Home → List Stamped
  held home = noted_in (kept home)

  queue_entries : (i : ℕ) (entries : List Made) → slice_get queues i ≡ Some entries → noted_in entries ≡ held (QueueHome (1 + i))
  queue_entries i entries is =
      let on : suc i ≡ 1 + i = omega arith in
      ap (λ o. noted_in (list_in o)) (sym is) ∙ ap (λ n. held (QueueHome n)) on

  caller_entries : (i : ℕ) (entries : List Stamped) → slice_get own i ≡ Some entries → entries ≡ held (CallerHome (1 + i))
  caller_entries i entries is =
      let on : suc i ≡ 1 + i = omega arith in
      sym (noted_made (record { 0 = suc i }) entries) ∙ (ap (λ o. noted_in (made_by (record { 0 = suc i }) (list_in o))) (sym is) ∙ ap (λ n. held (CallerHome n)) on)

  map_self : {X : Type 0} (xs : List X) → map (λ x. x) xs ≡ xs
  map_self [] = refl
  map_self (x ∷ xs) = ap (λ ys. x ∷ ys) (map_self xs)

  pub are_homes : (homes : List Notes) → AreAll setup clients board clock queues own homes → AreHomes (all_homes setup clients) kept homes
  are_homes homes are = record {
    once = λ home. at_most are.all_queues are.all_callers home (once are.all_queues are.all_callers home);
    rest = λ home. nothing are.all_queues are.all_callers home (once are.all_queues are.all_callers home);
    are =
        let at_queues : map noted_in queues ≡ map held queue_homes =
        alike_numbered noted_in (λ k. held (QueueHome k)) 1 queues queue_entries ∙ (ap (λ n. map (λ k. held (QueueHome k)) (numbers_from 1 n)) are.all_queues ∙ sym (map-map held QueueHome (numbers_from 1 (length setup.queues)))) in
        let at_callers : own ≡ map held caller_homes =
        sym (map_self own) ∙ (alike_numbered (λ (xs : List Stamped). xs) (λ k. held (CallerHome k)) 1 own caller_entries
        ∙ (ap (λ n. map (λ k. held (CallerHome k)) (numbers_from 1 n)) are.all_callers ∙ sym (map-map held CallerHome (numbers_from 1 (clients + length setup.servers))))) in
        are.hold
        ∙ ap (λ rest. noted_in board ∷ rest)
        (ap (λ xs. xs ++ noted_in clock ∷ own) at_queues ∙ (ap (λ xs. map held queue_homes ++ noted_in clock ∷ xs) at_callers ∙ sym (map-append held queue_homes (ClockHome ∷ caller_homes))));
  }

  -- the homes have a merge, by which each request is new where it is sent
  pub queues_are_met : (workers : ℕ) (noted : ℕ → List Stamped) → length queues ≡ length setup.queues → length own ≡ clients + length setup.servers → IsCrew setup clients workers kept noted
      → AtEach (HomePart setup) (past_in (noted_in board)) → AtEach (HomePart setup) (past_in (noted_in clock)) → AllMetIfNew setup kept → AllNew setup kept × AllMet setup kept
  queues_are_met workers noted all_queues all_callers crew board_met clock_met each =
      let m = some_merge setup clients held (each_held setup clients workers kept noted crew) (all_homes setup clients) (λ home. at_most all_queues all_callers home (once all_queues all_callers home))
      (λ home none. ap noted_in (nothing all_queues all_callers home (once all_queues all_callers home) none)) in
      queues_met setup clients workers kept noted crew _ m.0 m.1 board_met clock_met each

  pub crew_is_run : (workers : ℕ) (noted : ℕ → List Stamped) (homes : List Notes) (events : List Event) → IsCrew setup clients workers kept noted → AllMet setup kept → AreAll setup clients board clock queues own homes → IsMerged homes events
      → Run (opening setup clients) events (record { setup = setup; clients = clients; past = reverse events })
  crew_is_run workers noted homes events crew met are merged =
      subst (λ (es : List Event). Run (opening setup clients) es (record { setup = setup; clients = clients; past = reverse events })) (reverse-reverse events)
      (local_is_run setup clients (reverse events) (crew_is_local setup clients workers kept noted crew (all_homes setup clients) homes events (are_homes homes are) merged met))

-- ---- of what a caller noted itself it is the one maker

by_itself : (caller : CallerId) (worker : ℕ) (entries : List Stamped) → caller.0 ≡ worker → noted_in (entries_by maker_of worker (made_by caller entries)) ≡ entries
by_itself caller worker [] is = refl
by_itself caller worker (x ∷ entries) is = ap noted_in (filter-yes (λ entry. maker_of entry == worker) (record { maker = caller; noted = x }) (made_by caller entries) (eq-eqb caller.0 worker is)) ∙ ap (λ xs. x ∷ xs) (by_itself caller worker entries is)

by_others : (caller : CallerId) (worker : ℕ) (entries : List Stamped) → (caller.0 ≡ worker → ⊥) → noted_in (entries_by maker_of worker (made_by caller entries)) ≡ []
by_others caller worker [] apart = refl
by_others caller worker (x ∷ entries) apart = ap noted_in (filter-no (λ entry. maker_of entry == worker) (record { maker = caller; noted = x }) (made_by caller entries) (ne_eqb caller.0 worker apart)) ∙ by_others caller worker entries apart

-- where a caller's own home has what it noted there, so it is for every worker
pub own_theirs : (setup : Setup) (clients : ℕ) (caller : CallerId) (worker : ℕ) (entries noted : List Stamped) → All (λ (x : Stamped). MayNote clients worker x.event) noted → (worker ≡ caller.0 → entries ≡ filter (stands_at setup clients (CallerHome caller.0)) noted)
    → noted_in (entries_by maker_of worker (made_by caller entries)) ≡ filter (stands_at setup clients (CallerHome caller.0)) noted
own_theirs setup clients caller worker entries noted may own =
    elim (cases_eq worker caller.0) [
      | inl same ↦ by_itself caller worker entries (sym same) ∙ own same
      | inr apart ↦ by_others caller worker entries (λ same. apart (sym same)) ∙ sym (others_note_nothing setup clients caller.0 worker noted apart may)
    ]
