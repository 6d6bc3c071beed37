-- What a worker noted is what the merge has of it: the stamps of a worker rise strictly over all homes.
use Rattle.std.proofs.Common.{◌≡◌, ℕ, suc, zero, ◌<◌, ◌≤◌, ◌==◌, Bool, true, false, List, [], ◌∷◌, ◌++◌, map, inl, inr, refl, sym, ◌∙◌, ap, subst, arith, append_assoc, eq-eqb, eqb-true}
use Rattle.std.specs.List.{All, filter}
use Rattle.std.proofs.lemmas.Bool.{cases_Bool, cases_lt}
use Rattle.std.proofs.lemmas.List.{append-nil}
use Rattle.std.proofs.lemmas.List.Elements.{filter-append, All-nil, All-cons, All-head, All-tail, All-map, All-filter, All-weaker}
use Rattle.xa_types.specs.declared.setup.Setup.{Setup}
use Rattle.xa_types.specs.declared.stamp.Stamp.{Stamp}
use Rattle.xa_events.specs.declared.event.Event.{Event}
use Rattle.xa_events.specs.declared.event.Event.TheVariants.{Advertise, Withdraw, Sweep, Down, Close}
use Rattle.xa_events.specs.Words.{AtEach}
use Rattle.xa_events.specs.Homes.{Home, home_of, worker_of, of_worker}
use Rattle.xa_events.specs.Cases.{WorkerPart}
use Rattle.xa_events.specs.Local.{worker_events}
use Rattle.xa_events.proofs.Merge.{same_home-self}
use Rattle.xa_stamp.specs.declared.home.Stamped.{Stamped}
use Rattle.xa_stamp.specs.Home.{Rises}
use Rattle.xa_lock.specs.declared.makers.Made.{Made}
use Rattle.xa_lock.specs.Pages.{entries_by}
use Rattle.xa_lock.specs.Makers.{maker_of, noted_in}
use Rattle.xa_worker.specs.Seen.{past_in}
use Rattle.xa_worker.specs.Crew.{IsCrew, no_stamp, IsOfDomain, MayNote, stands_at}
use Rattle.xa_worker.proofs.Lists.{filter-yes, filter-no, filter-map, filter-filter, filter-inside, filter-none, All-homes, All-makers, past_in-append, past_in-filter, same_home-no}
use Rattle.xa_worker.proofs.Placed.{Climbs, IsMergeOf}

-- ---- stamps that rise

-- each stamp is greater than the one before it
abbrev pub Mounts : ℕ → List Stamped → Type 0
Mounts low [] = Unit {0}
Mounts low (x ∷ xs) = (low < x.stamp.0) × Mounts x.stamp.0 xs

pub mounts : (first : Stamp) (xs : List Stamped) → Rises first xs → Mounts first.0 xs
mounts first [] rises = tt
mounts first (x ∷ xs) rises = (rises.0, mounts x.stamp xs rises.1)

pub mounts-above : (low : ℕ) (xs : List Stamped) → Mounts low xs → All (λ (x : Stamped). low < x.stamp.0) xs
mounts-above low [] h = All-nil (λ (x : Stamped). low < x.stamp.0)
mounts-above low (x ∷ xs) h = All-cons (λ (x : Stamped). low < x.stamp.0) x xs h.0 (All-weaker (λ (y : Stamped). x.stamp.0 < y.stamp.0) (λ (y : Stamped). low < y.stamp.0) (λ y more. omega (arith, more, h.0)) xs (mounts-above x.stamp.0 xs h.1))

mounts-lower : (low high : ℕ) (xs : List Stamped) → low ≤ high → Mounts high xs → Mounts low xs
mounts-lower low high [] le h = tt
mounts-lower low high (x ∷ xs) le h = (omega (arith, h.0, le), h.1)

pub mounts-filter : (p : Stamped → Bool) (low : ℕ) (xs : List Stamped) → Mounts low xs → Mounts low (filter p xs)
mounts-filter p low [] h = tt
mounts-filter p low (x ∷ xs) h =
    let rest = mounts-filter p x.stamp.0 xs h.1 in
    let first : low < x.stamp.0 = h.0 in
    elim (cases_Bool (p x)) [
      | inl y ↦ subst (Mounts low) (sym (filter-yes p x xs y)) (first, rest)
      | inr n ↦ subst (Mounts low) (sym (filter-no p x xs n)) (mounts-lower low x.stamp.0 (filter p xs) (omega (arith, first)) rest)
    ]

pub climbs-above : (low : ℕ) (xs : List Stamped) → Climbs low xs → All (λ (x : Stamped). low ≤ x.stamp.0) xs
climbs-above low [] h = All-nil (λ (x : Stamped). low ≤ x.stamp.0)
climbs-above low (x ∷ xs) h = All-cons (λ (x : Stamped). low ≤ x.stamp.0) x xs h.0 (All-weaker (λ (y : Stamped). x.stamp.0 ≤ y.stamp.0) (λ (y : Stamped). low ≤ y.stamp.0) (λ y more. omega (arith, more, h.0)) xs (climbs-above x.stamp.0 xs h.1))

climbs-lower : (low high : ℕ) (xs : List Stamped) → low ≤ high → Climbs high xs → Climbs low xs
climbs-lower low high [] le h = tt
climbs-lower low high (x ∷ xs) le h = (omega (arith, h.0, le), h.1)

climbs-filter : (p : Stamped → Bool) (low : ℕ) (xs : List Stamped) → Climbs low xs → Climbs low (filter p xs)
climbs-filter p low [] h = tt
climbs-filter p low (x ∷ xs) h =
    let rest = climbs-filter p x.stamp.0 xs h.1 in
    let first : low ≤ x.stamp.0 = h.0 in
    elim (cases_Bool (p x)) [
      | inl y ↦ subst (Climbs low) (sym (filter-yes p x xs y)) (first, rest)
      | inr n ↦ subst (Climbs low) (sym (filter-no p x xs n)) (climbs-lower low x.stamp.0 (filter p xs) first rest)
    ]

-- ---- two lists with the same entries at each home, in order

module _ (setup : Setup) (clients : ℕ) where
  abbrev at : Home → Stamped → Bool
  at home = stands_at setup clients home

  abbrev home : Stamped → Home
  home x = home_of setup clients x.event

  -- the same entries stand at each home
  abbrev Alike : List Stamped → List Stamped → Type 0
  Alike xs ys = (home : Home) → filter (at home) xs ≡ filter (at home) ys

  here : (x : Stamped) (xs : List Stamped) → filter (at (home x)) (x ∷ xs) ≡ x ∷ filter (at (home x)) xs
  here x xs = filter-yes (at (home x)) x xs (same_home-self (home x))

  none_alike : (x : Stamped) (xs : List Stamped) → filter (at (home x)) (x ∷ xs) ≡ [] → ⊥
  none_alike x xs e = let z : x ∷ filter (at (home x)) xs ≡ [] = sym (here x xs) ∙ e in cc z

  -- the first of one list stands further on in the other, where that begins at another home
  further : (P : Stamped → Type 0) (x y : Stamped) (xs ys : List Stamped) → at (home x) y ≡ false → filter (at (home x)) (x ∷ xs) ≡ filter (at (home x)) (y ∷ ys) → All P ys → P x
  further P x y xs ys other same all =
      let whole : filter (at (home x)) ys ≡ x ∷ filter (at (home x)) xs = sym (filter-no (at (home x)) y ys other) ∙ (sym same ∙ here x xs) in
      All-head P x (filter (at (home x)) xs) (subst (All P) whole (All-filter (at (home x)) P ys all))

  alike_rest : (x : Stamped) (xs ys : List Stamped) (h : Home) → filter (at h) (x ∷ xs) ≡ filter (at h) (x ∷ ys) → filter (at h) xs ≡ filter (at h) ys
  alike_rest x xs ys h same =
      elim (cases_Bool (at h x)) [
        | inl y ↦ let z : x ∷ filter (at h) xs ≡ x ∷ filter (at h) ys = sym (filter-yes (at h) x xs y) ∙ (same ∙ filter-yes (at h) x ys y) in cc z
        | inr n ↦ sym (filter-no (at h) x xs n) ∙ (same ∙ filter-no (at h) x ys n)
      ]

  first_alike : (x y : Stamped) (xs ys : List Stamped) → Climbs x.stamp.0 xs → Mounts y.stamp.0 ys → Alike (x ∷ xs) (y ∷ ys) → x ≡ y
  first_alike x y xs ys climb mount same =
      elim (cases_Bool (at (home x) y)) [
        | inl is ↦ let z : x ∷ filter (at (home x)) xs ≡ y ∷ filter (at (home x)) ys = sym (here x xs) ∙ (same (home x) ∙ filter-yes (at (home x)) y ys is) in cc z
        | inr apart ↦
            let up : y.stamp.0 < x.stamp.0 = further (λ (z : Stamped). y.stamp.0 < z.stamp.0) x y xs ys apart (same (home x)) (mounts-above y.stamp.0 ys mount) in
            let down : x.stamp.0 ≤ y.stamp.0 = further (λ (z : Stamped). x.stamp.0 ≤ z.stamp.0) y x ys xs (same_home-no (home y) (home x) apart) (sym (same (home y))) (climbs-above x.stamp.0 xs climb) in
            absurd (omega (arith, up, down))
      ]

  -- they are the same, where the stamps of one don't fall and those of the other rise
  same_alike : (low low' : ℕ) (xs ys : List Stamped) → Climbs low xs → Mounts low' ys → Alike xs ys → xs ≡ ys
  same_alike low low' [] [] climb mount same = refl
  same_alike low low' [] (y ∷ ys) climb mount same = absurd (none_alike y ys (sym (same (home y))))
  same_alike low low' (x ∷ xs) [] climb mount same = absurd (none_alike x xs (same (home x)))
  same_alike low low' (x ∷ xs) (y ∷ ys) climb mount same =
      let first = first_alike x y xs ys climb.1 mount.1 same in
      let same' : Alike (x ∷ xs) (x ∷ ys) = subst (λ (z : Stamped). Alike (x ∷ xs) (z ∷ ys)) (sym first) same in
      ap (λ z. z ∷ xs) first ∙ ap (λ zs. y ∷ zs) (same_alike x.stamp.0 y.stamp.0 xs ys climb.1 mount.1 (λ h. alike_rest x xs ys h (same' h)))

-- ---- each entry with those before it

past_in-push : (xs : List Stamped) (x : Stamped) → past_in (xs ++ x ∷ []) ≡ x.event ∷ past_in xs
past_in-push xs x = past_in-append xs (x ∷ [])

AtEach-on : (P : Event → List Event → Type 0) (front rest : List Stamped) → AtEach P (past_in front)
    → ((before after : List Stamped) (x : Stamped) → front ++ rest ≡ before ++ x ∷ after → P x.event (past_in before)) → AtEach P (past_in (front ++ rest))
AtEach-on P front [] each split = subst (λ (xs : List Stamped). AtEach P (past_in xs)) (sym (append-nil front)) each
AtEach-on P front (x ∷ rest) each split =
    let moved : (front ++ x ∷ []) ++ rest ≡ front ++ x ∷ rest = append_assoc front (x ∷ []) rest in
    let pushed : AtEach P (past_in (front ++ x ∷ [])) = subst (AtEach P) (sym (past_in-push front x)) (split front rest x refl, each) in
    subst (λ (xs : List Stamped). AtEach P (past_in xs)) moved (AtEach-on P (front ++ x ∷ []) rest pushed (λ before after y is. split before after y (sym moved ∙ is)))

-- what holds of each entry with those before it
pub AtEach-from : (P : Event → List Event → Type 0) (xs : List Stamped) → ((before after : List Stamped) (x : Stamped) → xs ≡ before ++ x ∷ after → P x.event (past_in before)) → AtEach P (past_in xs)
AtEach-from P xs split = AtEach-on P [] xs tt split

pub All-at : (P : Stamped → Type 0) (before after : List Stamped) (x : Stamped) → All P (before ++ x ∷ after) → P x
All-at P [] after x h = All-head P x after h
All-at P (y ∷ before) after x h = All-at P before after x (All-tail P y (before ++ x ∷ after) h)

-- ---- one place of an entry among stamps that rise

apart : (x : Stamped) (xs front back : List Stamped) → Mounts x.stamp.0 xs → xs ≡ front ++ x ∷ back → ⊥
apart x xs front back mount is =
    let above = All-at (λ (y : Stamped). x.stamp.0 < y.stamp.0) front back x (subst (All (λ (y : Stamped). x.stamp.0 < y.stamp.0)) is (mounts-above x.stamp.0 xs mount)) in
    omega (arith, above)

pub one_place : (low : ℕ) (front other back more : List Stamped) (x : Stamped) → Mounts low (front ++ x ∷ back) → front ++ x ∷ back ≡ other ++ x ∷ more → front ≡ other
one_place low [] [] back more x mount is = refl
one_place low [] (y ∷ other) back more x mount is =
    let rest : back ≡ other ++ x ∷ more = cc is in
    absurd (apart x back other more mount.1 rest)
one_place low (y ∷ front) [] back more x mount is =
    let first : y ≡ x = cc is in
    absurd (apart x (front ++ x ∷ back) front back (subst (λ (z : Stamped). Mounts z.stamp.0 (front ++ x ∷ back)) first mount.1) refl)
one_place low (y ∷ front) (z ∷ other) back more x mount is =
    let first : y ≡ z = cc is in
    let rest : front ++ x ∷ back ≡ other ++ x ∷ more = cc is in
    ap (λ w. w ∷ front) first ∙ ap (λ ws. z ∷ ws) (one_place y.stamp.0 front other back more x mount.1 rest)

-- ---- events of the domain

domain_worker : (clients : ℕ) (e : Event) → IsOfDomain e → worker_of clients e ≡ 0
domain_worker clients (Advertise a) d = d.domain
domain_worker clients (Withdraw w) d = d.domain
domain_worker clients (Sweep x) d = refl
domain_worker clients (Down queue) d = refl
domain_worker clients (Close queue) d = refl
domain_worker clients _ d = absurd d

domain_part : (setup : Setup) (clients : ℕ) (e : Event) (past : List Event) → IsOfDomain e → WorkerPart setup clients e past
domain_part setup clients (Advertise a) past d = inl d
domain_part setup clients (Withdraw w) past d = inl d
domain_part setup clients (Sweep x) past d = tt
domain_part setup clients (Down queue) past d = tt
domain_part setup clients (Close queue) past d = tt
domain_part setup clients _ past d = absurd d

-- ---- the workers of a crew

module _ (setup : Setup) (clients workers : ℕ) (kept : Home → List Made) (noted : ℕ → List Stamped) (crew : IsCrew setup clients workers kept noted) (events : List Event) (merged : List Stamped) (m : IsMergeOf setup clients (λ home. noted_in (kept home)) merged events) where
  abbrev is_of : ℕ → Stamped → Bool
  is_of worker x = of_worker clients worker x.event

  -- what holds of what each worker noted, with the worker, holds of the entries of a home
  each_kept : (Q : ℕ → Stamped → Type 0) → ((worker : ℕ) → worker < workers → All (Q worker) (noted worker)) → (home : Home) → All (λ (entry : Made). Q (maker_of entry) entry.noted) (kept home)
  each_kept Q each home =
      All-makers workers Q (kept home) (λ worker low. subst (All (Q worker)) (sym (crew.theirs worker low home)) (All-filter (stands_at setup clients home) (Q worker) (noted worker) (each worker low))) (crew.homes home).made

  -- what holds of all that was noted holds of the merge
  pub each_merged : (Q : Stamped → Type 0) → ((worker : ℕ) → worker < workers → All Q (noted worker)) → All Q merged
  each_merged Q each =
      All-homes setup clients Q merged (λ home. subst (All Q) (sym (m.theirs home)) (All-map Q (λ (entry : Made). entry.noted) (kept home) (each_kept (λ worker. Q) each home)))

  -- an entry of a worker other than the domain was noted by it
  noted_by_it : (worker other : ℕ) → 0 < worker → (x : Stamped) → MayNote clients other x.event → is_of worker x ≡ true → other ≡ worker
  noted_by_it worker other some x (inl own) is = sym own.1 ∙ eqb-true (worker_of clients x.event) worker is
  noted_by_it worker other some x (inr d) is = let none : 0 ≡ worker = sym (domain_worker clients x.event d) ∙ eqb-true (worker_of clients x.event) worker is in absurd (omega (arith, none, some))

  its_makers : (worker : ℕ) → 0 < worker → (home : Home) → All (λ (entry : Made). is_of worker entry.noted ≡ true → (maker_of entry == worker) ≡ true) (kept home)
  its_makers worker some home =
      let Q : ℕ → Stamped → Type 0 = λ maker x. is_of worker x ≡ true → (maker == worker) ≡ true in
      each_kept Q (λ other low. All-weaker (λ (x : Stamped). MayNote clients other x.event) (Q other) (λ x may is. eq-eqb other worker (noted_by_it worker other some x may is)) (noted other) (crew.work other low).may) home

  its_entries : (worker : ℕ) → 0 < worker → (home : Home) → filter (is_of worker) (noted_in (entries_by maker_of worker (kept home))) ≡ filter (is_of worker) (noted_in (kept home))
  its_entries worker some home =
      filter-map (is_of worker) (λ (entry : Made). entry.noted) (entries_by maker_of worker (kept home))
      ∙ (ap (map (λ (entry : Made). entry.noted)) (filter-inside (λ (entry : Made). is_of worker entry.noted) (λ entry. maker_of entry == worker) (kept home) (its_makers worker some home))
      ∙ sym (filter-map (is_of worker) (λ (entry : Made). entry.noted) (kept home)))

  -- of a worker other than the domain the merge has what it noted
  pub its_own : (worker : ℕ) → 0 < worker → worker < workers → filter (is_of worker) merged ≡ filter (is_of worker) (noted worker)
  its_own worker some low =
      let work = crew.work worker low in
      let rises = mounts-filter (is_of worker) 0 (noted worker) (mounts no_stamp (noted worker) work.rises) in
      same_alike setup clients 0 0 (filter (is_of worker) merged) (filter (is_of worker) (noted worker)) (climbs-filter (is_of worker) 0 merged m.climbs) rises (λ home.
      filter-filter (stands_at setup clients home) (is_of worker) merged
      ∙ (ap (filter (is_of worker)) (m.theirs home)
      ∙ (sym (its_entries worker some home)
      ∙ (ap (filter (is_of worker)) (crew.theirs worker low home)
      ∙ filter-filter (is_of worker) (stands_at setup clients home) (noted worker)))))

  -- what stands of the worker's own before an entry of its own is what it had noted
  pub its_place : (worker : ℕ) → 0 < worker → worker < workers → (before after front back : List Stamped) (x : Stamped) → merged ≡ before ++ x ∷ after → noted worker ≡ front ++ x ∷ back → is_of worker x ≡ true → filter (is_of worker) before ≡ filter (is_of worker) front
  its_place worker some low before after front back x split is mine =
      let parted : (xs ys : List Stamped) → filter (is_of worker) (xs ++ x ∷ ys) ≡ filter (is_of worker) xs ++ x ∷ filter (is_of worker) ys =
      λ xs ys. filter-append (is_of worker) xs (x ∷ ys) ∙ ap (λ zs. filter (is_of worker) xs ++ zs) (filter-yes (is_of worker) x ys mine) in
      let whole : filter (is_of worker) (noted worker) ≡ filter (is_of worker) before ++ x ∷ filter (is_of worker) after = sym (its_own worker some low) ∙ (ap (filter (is_of worker)) split ∙ parted before after) in
      let rises : Mounts 0 (filter (is_of worker) (noted worker)) = mounts-filter (is_of worker) 0 (noted worker) (mounts no_stamp (noted worker) (crew.work worker low).rises) in
      one_place 0 (filter (is_of worker) before) (filter (is_of worker) front) (filter (is_of worker) after) (filter (is_of worker) back) x (subst (Mounts 0) whole rises) (sym whole ∙ (ap (filter (is_of worker)) is ∙ parted front back))

  -- some worker may have noted it
  abbrev Noted : Stamped → Type 0
  Noted x = (other : ℕ) × (other < workers) × MayNote clients other x.event

  all_may : All Noted merged
  all_may = each_merged Noted (λ worker low. All-weaker (λ (x : Stamped). MayNote clients worker x.event) Noted (λ x may. (worker, low, may)) (noted worker) (crew.work worker low).may)

  of_domain : (x : Stamped) (other : ℕ) → MayNote clients other x.event → is_of 0 x ≡ true → IsOfDomain x.event
  of_domain x other (inl own) is = let none : 0 ≡ other = sym (eqb-true (worker_of clients x.event) 0 is) ∙ own.1 in absurd (omega (arith, none, own.0))
  of_domain x other (inr d) is = d

  the_domains : All (λ (x : Stamped). IsOfDomain x.event) (filter (is_of 0) merged)
  the_domains = passes merged (All-weaker Noted (λ (x : Stamped). is_of 0 x ≡ true → IsOfDomain x.event) (λ x may. of_domain x may.0 may.2) merged all_may)
    where
      passes : (xs : List Stamped) → All (λ (x : Stamped). is_of 0 x ≡ true → IsOfDomain x.event) xs → All (λ (x : Stamped). IsOfDomain x.event) (filter (is_of 0) xs)
      passes [] h = All-nil (λ (x : Stamped). IsOfDomain x.event)
      passes (x ∷ xs) h =
          let rest = passes xs (All-tail (λ (x : Stamped). is_of 0 x ≡ true → IsOfDomain x.event) x xs h) in
          elim (cases_Bool (is_of 0 x)) [
            | inl y ↦ subst (All (λ (x : Stamped). IsOfDomain x.event)) (sym (filter-yes (is_of 0) x xs y)) (All-cons (λ (x : Stamped). IsOfDomain x.event) x (filter (is_of 0) xs) (All-head (λ (x : Stamped). is_of 0 x ≡ true → IsOfDomain x.event) x xs h y) rest)
            | inr n ↦ subst (All (λ (x : Stamped). IsOfDomain x.event)) (sym (filter-no (is_of 0) x xs n)) rest
          ]

  not_of : (worker : ℕ) → 0 < worker → workers ≤ worker → (x : Stamped) (other : ℕ) → other < workers → MayNote clients other x.event → is_of worker x ≡ false
  not_of worker some high x other low may =
      elim (cases_Bool (is_of worker x)) [
        | inl y ↦ let same : other ≡ worker = noted_by_it worker other some x may y in absurd (omega (arith, same, high, low))
        | inr n ↦ n
      ]

  abbrev Met : ℕ → List Stamped → Type 0
  Met worker xs = AtEach (WorkerPart setup clients) (past_in (filter (is_of worker) xs))

  met : (worker : ℕ) → Met worker merged
  met zero = AtEach-from (WorkerPart setup clients) (filter (is_of 0) merged) (λ before after x is. domain_part setup clients x.event (past_in before) (All-at (λ (x : Stamped). IsOfDomain x.event) before after x (subst (All (λ (x : Stamped). IsOfDomain x.event)) is the_domains)))
  met (suc k) =
      let worker : ℕ = suc k in
      let some : 0 < worker = omega arith in
      elim (cases_lt worker workers) [
        | inl low ↦
            let there : Met worker (noted worker) = subst (AtEach (WorkerPart setup clients)) (past_in-filter (of_worker clients worker) (noted worker)) (crew.work worker low).met in
            subst (λ (xs : List Stamped). AtEach (WorkerPart setup clients) (past_in xs)) (sym (its_own worker some low)) there
        | inr high ↦
            let none : filter (is_of worker) merged ≡ [] = filter-none (is_of worker) merged (All-weaker Noted (λ (x : Stamped). is_of worker x ≡ false) (λ x may. not_of worker some high x may.0 may.1 may.2) merged all_may) in
            subst (λ (xs : List Stamped). AtEach (WorkerPart setup clients) (past_in xs)) (sym none) tt
      ]

  pub all_workers : (worker : ℕ) → AtEach (WorkerPart setup clients) (worker_events clients worker (past_in merged))
  all_workers worker = subst (AtEach (WorkerPart setup clients)) (sym (past_in-filter (of_worker clients worker) merged)) (met worker)
