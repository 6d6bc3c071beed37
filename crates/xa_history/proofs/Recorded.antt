-- Where events are recorded, and with which stamps.
use Rattle.std.proofs.Common.{◌≡◌, ℕ, ◌+◌, ◌<◌, ◌≤◌, ◌^◌, ◌==◌, Bool, true, false, cond, List, [], ◌∷◌, ◌++◌, map, inl, inr, refl, sym, ◌∙◌, ap, subst, arith, eqb-true, eq-eqb}
use Rattle.std.specs.List.{All, Contains, filter, flat_map}
use Rattle.std.proofs.lemmas.Bool.{cases_Bool, cases_lt, and_parts}
use Rattle.std.proofs.lemmas.List.Elements.{All-head, All-tail, All-weaker, All-map, All-filter, All-contains, All-contains_itself, filter_passes, Contains-append_left, Contains-append_right}
use Rattle.xa_client_worker.specs.xa_types.declared.setup.Setup.{Setup}
use Rattle.xa_client_worker.specs.xa_types.declared.stamp.Stamp.{Stamp}
use Rattle.xa_client_worker.specs.xa_events.declared.event.Event.{Event}
use Rattle.xa_client_worker.specs.xa_events.declared.event.Event.TheVariants.{Advertise, Withdraw, Sweep, Down, Close}
use Rattle.xa_client_worker.specs.xa_events.Homes.{Home, home_of, worker_of, of_worker, same_home, all_homes}
use Rattle.xa_client_worker.specs.xa_events.Homes.Home.{ClockHome}
use Rattle.xa_client_worker.specs.xa_events.Words.{count}
use Rattle.xa_client_worker.proofs.xa_events.WordsLemmas.{count_yes, count_no}
use Rattle.xa_client_worker.specs.xa_stamp.declared.home.Stamped.{Stamped}
use Rattle.xa_client_worker.specs.xa_stamp.Home.{Notes, Rises}
use Rattle.xa_client_worker.specs.xa_stamp.Merge.{IsDense, stamps_of}
use Rattle.xa_client_worker.specs.xa_lock.declared.makers.Made.{Made}
use Rattle.xa_client_worker.specs.xa_lock.Makers.{maker_of, noted_in}
use Rattle.xa_client_worker.specs.xa_lock.Pages.{entries_by}
use Rattle.xa_client_worker.specs.xa_worker.Crew.{AreHomes, IsOfDomain, MayNote, no_stamp, stands_at}
use Rattle.xa_client_worker.specs.xa_worker.Ending.{workers_of}
use Rattle.xa_client_worker.proofs.xa_worker.Dense.{crew_is_dense}
use Rattle.xa_client_worker.proofs.xa_worker.Ending.{are_homes}
use Rattle.xa_client_worker.proofs.xa_worker.Lists.{All-makers, filter-yes, filter-no, same_home-is}
use Rattle.xa_client_worker.proofs.xa_worker.Placed.{IsHeld}
use Rattle.xa_client_worker.proofs.xa_worker.Workers.{Mounts, mounts, mounts-above}
use Rattle.xa_client_worker.specs.xa_ticks.Clock.{made_in as moves_in}
use Rattle.xa_client_worker.specs.xa_held.Board.{made_in}
use Rattle.xa_client_worker.specs.xa_held.Kept.{Kept}
use Rattle.xa_client_worker.specs.xa_caller.declared.cargo.Filling.{Filling}
use Rattle.xa_client_worker.specs.xa_worker.Work.{WorkState}
use Rattle.xa_client_worker.specs.xa_desk.declared.domain.Domain.{Domain}
use Rattle.xa_client_worker.specs.xa_desk.declared.desk.Desk.{Desk}
use Rattle.xa_client_worker.specs.xa_desk.Whole.{IsKnown}
use Rattle.xa_client_worker.specs.xa_desk.Desks.{GoesOn}
use Rattle.xa_history.specs.Joined.{Back, whole_of, kept_of, noted_of, HasLeft, AllLeft}
use Rattle.xa_history.specs.Told.{AreTold}
use Rattle.xa_history.specs.Served.{HoldAll, IsOwn, EachOwn, IsRecorded, is_made_at}
use Rattle.xa_history.proofs.Listed.{all_mapped, all_both}
use Rattle.xa_history.proofs.Left.{each_left}
use Rattle.xa_history.proofs.Standing.{makers_at, may_at}
use Rattle.xa_history.proofs.Crew.{rises-lower, home_rises, desks_are_crew}
use Rattle.xa_history.proofs.Going.{desks_go_on}
use Rattle.xa_history.proofs.Stamps.{known_stamp, stamps_next}

-- ---- how many pass

count_none : {X : Type 0} (p : X → Bool) (xs : List X) → All (λ x. p x ≡ false) xs → count p xs ≡ 0
count_none p [] none = refl
count_none p (x ∷ xs) none = count_no p x xs (All-head (λ x. p x ≡ false) x xs none) ∙ count_none p xs (All-tail (λ x. p x ≡ false) x xs none)

count_append : {X : Type 0} (p : X → Bool) (xs ys : List X) → count p (xs ++ ys) ≡ count p xs + count p ys
count_append p [] ys = omega arith
count_append p (x ∷ xs) ys = elim (cases_Bool (p x)) [
  | inl here ↦ omega (arith, count_yes p x (xs ++ ys) here, count_yes p x xs here, count_append p xs ys)
  | inr other ↦ omega (arith, count_no p x (xs ++ ys) other, count_no p x xs other, count_append p xs ys)
]

-- ---- the events of a worker with one stamp

module _ (setup : Setup) (clients worker stamp : ℕ) where
  abbrev made : Stamped → Bool
  made = is_made_at clients worker stamp

  -- of these at most one is that, and stands at that home
  abbrev OneHome : List Stamped → Type 0
  OneHome own = (home : Home) × ((at : Home) → count made (filter (stands_at setup clients at) own) ≤ count (same_home home) (at ∷ []))

  later : (n : ℕ) → stamp ≡ n → (x : Stamped) → n < x.stamp.0 → made x ≡ false
  later n same x high = elim (cases_Bool (made x)) [
    | inl y ↦ let its = eqb-true x.stamp.0 stamp (and_parts (of_worker clients worker x.event) (x.stamp.0 == stamp) y).1 in absurd (omega (arith, its, same, high))
    | inr n ↦ n
  ]

  one_home : (low : ℕ) (own : List Stamped) → Mounts low own → OneHome own
  one_home low [] rise = (ClockHome, λ at. omega arith)
  one_home low (x ∷ own) rise =
      let rest = one_home x.stamp.0 own rise.1 in
      elim (cases_Bool (made x)) [
        | inl y ↦
            let same : stamp ≡ x.stamp.0 = sym (eqb-true x.stamp.0 stamp (and_parts (of_worker clients worker x.event) (x.stamp.0 == stamp) y).1) in
            let none : All (λ z. made z ≡ false) own = All-weaker (λ (z : Stamped). x.stamp.0 < z.stamp.0) (λ z. made z ≡ false) (later x.stamp.0 same) own (mounts-above x.stamp.0 own rise.1) in
            (home_of setup clients x.event, λ at. first at y (count_none made (filter (stands_at setup clients at) own) (All-filter (stands_at setup clients at) (λ z. made z ≡ false) own none)))
        | inr n ↦ (rest.0, λ at. subst (λ k. k ≤ count (same_home rest.0) (at ∷ [])) (sym (passed at n)) (rest.1 at))
      ]
    where
      first : (at : Home) → made x ≡ true → count made (filter (stands_at setup clients at) own) ≡ 0 → count made (filter (stands_at setup clients at) (x ∷ own)) ≤ count (same_home (home_of setup clients x.event)) (at ∷ [])
      first at y none =
          let p = stands_at setup clients at in
          let rest = filter p own in
          elim (cases_Bool (p x)) [
            | inl here ↦ omega (arith, ap (count made) (filter-yes p x own here), count_yes made x rest y, none, count_yes (same_home (home_of setup clients x.event)) at [] here)
            | inr off ↦ omega (arith, ap (count made) (filter-no p x own off), none)
          ]

      passed : (at : Home) → made x ≡ false → count made (filter (stands_at setup clients at) (x ∷ own)) ≡ count made (filter (stands_at setup clients at) own)
      passed at n =
          let p = stands_at setup clients at in
          elim (cases_Bool (p x)) [
            | inl here ↦ ap (count made) (filter-yes p x own here) ∙ count_no made x (filter p own) n
            | inr off ↦ ap (count made) (filter-no p x own off)
          ]

  -- at a home only its maker's count
  by_maker : (entries : List Made) → All (λ (entry : Made). made entry.noted ≡ true → maker_of entry ≡ worker) entries → count made (noted_in entries) ≡ count made (noted_in (entries_by maker_of worker entries))
  by_maker [] its = refl
  by_maker (e ∷ entries) its =
      let by : Made → Bool = λ x. maker_of x == worker in
      let rest = by_maker entries (All-tail (λ (entry : Made). made entry.noted ≡ true → maker_of entry ≡ worker) e entries its) in
      elim (cases_Bool (by e)) [
        | inl y ↦ ap (λ n. cond (made e.noted) (n + 1) n) rest ∙ sym (ap (λ l. count made (noted_in l)) (filter-yes by e entries y))
        | inr n ↦ count_no made e.noted (noted_in entries) (other n) ∙ (rest ∙ sym (ap (λ l. count made (noted_in l)) (filter-no by e entries n)))
      ]
    where
      other : (maker_of e == worker) ≡ false → made e.noted ≡ false
      other n = elim (cases_Bool (made e.noted)) [
        | inl y ↦ let same = eq-eqb (maker_of e) worker (All-head (λ (entry : Made). made entry.noted ≡ true → maker_of entry ≡ worker) e entries its y) in absurd (cc (same, n))
        | inr m ↦ m
      ]

  -- over all homes
  over_homes : (held : Home → List Stamped) (home : Home) → ((at : Home) → count made (held at) ≤ count (same_home home) (at ∷ [])) → (homes : List Notes) (names : List Home) → map (λ (h : Notes). h.entries) homes ≡ map held names
      → count made (flat_map (λ (h : Notes). h.entries) homes) ≤ count (same_home home) names
  over_homes held home each [] names are = omega arith
  over_homes held home each (h ∷ homes) [] are = absurd (cc are)
  over_homes held home each (h ∷ homes) (n ∷ names) are =
      let same : h.entries ≡ held n = cc are in
      let more : map (λ (h : Notes). h.entries) homes ≡ map held names = cc are in
      omega (
        arith,
        count_append made h.entries (flat_map (λ (h : Notes). h.entries) homes),
        ap (count made) same,
        each n,
        over_homes held home each homes names more,
        count_append (same_home home) (n ∷ []) names,
      )

-- ---- the homes of a domain

module _ (d : Domain) (b : Back) (domain : WorkState) (desks : List Desk) (all : AllLeft d b domain desks) where
  abbrev pub held : Home → List Stamped
  held home = noted_in (kept_of b home)

  pub each_held : (home : Home) → IsHeld d.setup d.clients home (held home)
  each_held home =
      let at : Stamped → Bool = stands_at d.setup d.clients home in
      let rises = home_rises d b domain desks all home in
      record {
        first = rises.0;
        rises = rises.1;
        stand =
            All-map (λ (x : Stamped). home_of d.setup d.clients x.event ≡ home) (λ (entry : Made). entry.noted) (kept_of b home)
            (All-weaker (λ (entry : Made). at entry.noted ≡ true) (λ (entry : Made). home_of d.setup d.clients entry.noted.event ≡ home) (λ entry is. same_home-is (home_of d.setup d.clients entry.noted.event) home is) (kept_of b home)
            (All-makers (workers_of d.setup d.clients) (λ worker x. at x ≡ true) (kept_of b home) (λ worker low. subst (All (λ (x : Stamped). at x ≡ true)) (sym ((each_left d b domain desks all worker low).theirs home)) (filter_passes at (noted_of domain desks worker)))
            (makers_at d b domain desks all home)));
      }

  -- an event of a worker was noted by it
  domain_worker : (e : Event) → IsOfDomain e → worker_of d.clients e ≡ 0
  domain_worker (Advertise a) its = its.domain
  domain_worker (Withdraw w) its = its.domain
  domain_worker (Sweep x) its = refl
  domain_worker (Down queue) its = refl
  domain_worker (Close queue) its = refl
  domain_worker _ its = absurd its

  noted_by : (worker : ℕ) → 0 < worker → (entry : Made) → MayNote d.clients entry.maker.0 entry.noted.event → of_worker d.clients worker entry.noted.event ≡ true → maker_of entry ≡ worker
  noted_by worker some entry (inl its) is = sym its.1 ∙ eqb-true (worker_of d.clients entry.noted.event) worker is
  noted_by worker some entry (inr its) is = let none = sym (domain_worker entry.noted.event its) ∙ eqb-true (worker_of d.clients entry.noted.event) worker is in absurd (omega (arith, none, some))

  module _ (worker stamp : ℕ) (some : 0 < worker) where
    abbrev one : Stamped → Bool
    one = made d.setup d.clients worker stamp

    its : (at : Home) → All (λ (entry : Made). one entry.noted ≡ true → maker_of entry ≡ worker) (kept_of b at)
    its at =
        All-weaker (λ (entry : Made). MayNote d.clients entry.maker.0 entry.noted.event) (λ (entry : Made). one entry.noted ≡ true → maker_of entry ≡ worker)
        (λ entry may is. noted_by worker some entry may (and_parts (of_worker d.clients worker entry.noted.event) (entry.noted.stamp.0 == stamp) is).0) (kept_of b at) (may_at d b domain desks all at)

    -- a worker that isn't there noted nothing
    no_worker : workers_of d.setup d.clients ≤ worker → (at : Home) → count one (held at) ≡ 0
    no_worker high at =
        count_none one (held at)
        (All-map (λ x. one x ≡ false) (λ (entry : Made). entry.noted) (kept_of b at)
        (all_both (λ (entry : Made). maker_of entry < workers_of d.setup d.clients) (λ (entry : Made). one entry.noted ≡ true → maker_of entry ≡ worker) (λ (entry : Made). one entry.noted ≡ false) (kept_of b at) not_its (makers_at d b domain desks all at) (its at)))
      where
        not_its : (entry : Made) → maker_of entry < workers_of d.setup d.clients → (one entry.noted ≡ true → maker_of entry ≡ worker) → one entry.noted ≡ false
        not_its entry low by = elim (cases_Bool (one entry.noted)) [
          | inl y ↦ let same = by y in absurd (omega (arith, same, low, high))
          | inr n ↦ n
        ]

    at_one_home : (home : Home) × ((at : Home) → count one (held at) ≤ count (same_home home) (at ∷ []))
    at_one_home = elim (cases_lt worker (workers_of d.setup d.clients)) [
      | inl low ↦
          let left = each_left d b domain desks all worker low in
          let own = noted_of domain desks worker in
          let home = one_home d.setup d.clients worker stamp 0 own (mounts no_stamp own left.work.rises) in
          (home.0, λ at. subst (λ n. n ≤ count (same_home home.0) (at ∷ [])) (sym (by_maker d.setup d.clients worker stamp (kept_of b at) (its at) ∙ ap (count one) (left.theirs at))) (home.1 at))
      | inr high ↦ (ClockHome, λ at. subst (λ n. n ≤ count (same_home ClockHome) (at ∷ [])) (sym (no_worker high at)) (omega arith))
    ]

  each_own : (homes : List Notes) (names : List Home) → map (λ (h : Notes). h.entries) homes ≡ map held names → EachOwn d.setup d.clients names homes
  each_own [] [] are = tt
  each_own [] (n ∷ names) are = absurd (cc are)
  each_own (h ∷ homes) [] are = absurd (cc are)
  each_own (h ∷ homes) (n ∷ names) are =
      let same : h.entries ≡ held n = cc are in
      let more : map (λ (h : Notes). h.entries) homes ≡ map held names = cc are in
      let is = each_held n in
      let here : IsOwn d.setup d.clients n h = record {
        own = subst (All (λ (x : Stamped). home_of d.setup d.clients x.event ≡ n)) (sym same) is.stand;
        rises = subst (Rises no_stamp) (sym same) (rises-lower no_stamp is.first (held n) (omega arith) is.rises);
      } in
      (here, each_own homes names more)

  abbrev pub names : List Home
  names = all_homes d.setup d.clients

  pub names_are : (homes : List Notes) → HoldAll d b homes → AreHomes names (kept_of b) homes
  names_are homes hold = are_homes d.setup d.clients (made_in b.board.notes) (moves_in b.clock.entries) (map (λ (kept : Kept Filling). kept.queue.entries) b.queues) b.own homes hold

pub recorded : (d : Domain) (b : Back) (domain : WorkState) (desks : List Desk) (homes : List Notes) → AllLeft d b domain desks → HoldAll d b homes → AreTold d.setup d.clients homes → IsRecorded d.setup d.clients homes
recorded d b domain desks homes all hold told =
    let are = names_are d b domain desks all homes hold in
    record {
      each = each_own d b domain desks all homes (names d b domain desks all) are.are;
      workers = λ worker stamp some.
          let home = at_one_home d b domain desks all worker stamp some in
          let most = over_homes d.setup d.clients worker stamp (held d b domain desks all) home.0 home.1 homes (names d b domain desks all) are.are in
          omega (arith, most, are.once home.0);
      told = told;
    }

pub dense : (d : Domain) (b : Back) (domain : WorkState) (desks : List Desk) (homes : List Notes) → AllLeft d b domain desks → HoldAll d b homes → IsDense no_stamp homes
dense d b domain desks homes all hold =
    crew_is_dense d.setup d.clients (workers_of d.setup d.clients) (kept_of b) (noted_of domain desks) (desks_are_crew d b domain desks all) (all_homes d.setup d.clients) homes (names_are d b domain desks all homes hold) (stamps_next d b domain desks all)

-- ---- a stamp at its end

-- what stands at a home that is there has its stamp among all
among_stamps : (held : Home → List Stamped) (home : Home) (x : Stamped) → Contains (held home) x → (homes : List Notes) (names : List Home) → map (λ (h : Notes). h.entries) homes ≡ map held names → (count (same_home home) names ≡ 0 → ⊥) → Contains (stamps_of homes) x.stamp.0
among_stamps held home x here [] [] are some = absurd (some refl)
among_stamps held home x here [] (n ∷ names) are some = absurd (cc are)
among_stamps held home x here (h ∷ homes) [] are some = absurd (some refl)
among_stamps held home x here (h ∷ homes) (n ∷ names) are some =
    let stamp : Stamped → ℕ = λ y. y.stamp.0 in
    let same : h.entries ≡ held n = cc are in
    let more : map (λ (h : Notes). h.entries) homes ≡ map held names = cc are in
    elim (cases_Bool (same_home home n)) [
      | inl y ↦
          let there : Contains h.entries x = subst (λ (xs : List Stamped). Contains xs x) (ap held (same_home-is home n y) ∙ sym same) here in
          let stamps = map stamp h.entries in
          Contains-append_left stamps (stamps_of homes) x.stamp.0 (All-contains (λ y. Contains stamps (stamp y)) h.entries x (all_mapped (Contains stamps) stamp h.entries (All-contains_itself stamps)) there)
      | inr off ↦ Contains-append_right (map stamp h.entries) (stamps_of homes) x.stamp.0 (among_stamps held home x here homes names more (λ none. some (count_no (same_home home) n names off ∙ none)))
    ]

-- a known stamp that is at the end of stamps is an event's
pub known_noted : (d : Domain) (b : Back) (domain : WorkState) (desks : List Desk) (homes : List Notes) → AllLeft d b domain desks → HoldAll d b homes → (stamp : Stamp) → IsKnown (whole_of d b) stamp → stamp.0 ≡ 2 ^ 63 → Contains (stamps_of homes) (2 ^ 63)
known_noted d b domain desks homes all hold stamp is worn =
    let are = names_are d b domain desks all homes hold in
    elim (known_stamp d b domain desks all stamp is) [
      | inl none ↦ absurd (omega (arith, none, worn))
      | inr its ↦
          subst (Contains (stamps_of homes)) (its.3 ∙ worn)
          (among_stamps (held d b domain desks all) its.0 its.1 its.2 homes (names d b domain desks all) are.are (λ none. let empty : Contains [] its.1 = subst (λ (l : List Made). Contains (noted_in l) its.1) (are.rest its.0 none) its.2 in absurd (omega (arith, empty.1))))
    ]

pub worn_noted : (d : Domain) (b : Back) (domain : WorkState) (desks : List Desk) (homes : List Notes) → AllLeft d b domain desks → HoldAll d b homes → (desk : Desk) → Contains desks desk → desk.caller.work.stamp.0 ≡ 2 ^ 63 → Contains (stamps_of homes) (2 ^ 63)
worn_noted d b domain desks homes all hold desk there worn =
    let is = (All-contains (HasLeft d b) desks desk all.left there).is.known_stamp (whole_of d b) (All-contains (GoesOn d (whole_of d b)) desks desk (desks_go_on d b domain desks all) there) in
    known_noted d b domain desks homes all hold desk.caller.work.stamp is worn
