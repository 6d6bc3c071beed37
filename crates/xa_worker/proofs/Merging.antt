-- Homes have a merge.
use Rattle.std.proofs.Common.{◌≡◌, ℕ, ◌<◌, ◌≤◌, ◌==◌, Bool, true, false, cond, List, [], ◌∷◌, ◌++◌, map, if◌then◌else◌, inl, inr, refl, sym, ◌∙◌, ap, subst, arith, eqb-true, leb-true, leb-false}
use Rattle.std.specs.Prelude.{nat_le}
use Rattle.std.specs.List.{All, filter}
use Rattle.std.proofs.lemmas.Bool.{cases_Bool}
use Rattle.std.proofs.lemmas.List.{append-nil}
use Rattle.std.proofs.lemmas.List.Elements.{All-head, All-weaker, filter-append}
use Rattle.xa_types.specs.declared.setup.Setup.{Setup}
use Rattle.xa_events.specs.Words.{count}
use Rattle.xa_events.specs.Homes.{Home, same_home, home_of}
use Rattle.xa_events.proofs.WordsLemmas.{count_yes, count_no}
use Rattle.xa_events.proofs.Merge.{same_home-self}
use Rattle.xa_stamp.specs.declared.home.Stamped.{Stamped}
use Rattle.xa_worker.specs.Crew.{stands_at}
use Rattle.xa_worker.proofs.Lists.{filter-yes, filter-no, filter-none, same_home-is, same_home-sym}
use Rattle.xa_worker.proofs.Growing.{filter_all}
use Rattle.xa_worker.proofs.Placed.{Climbs, IsMergeOf, IsHeld, exactly_one}
use Rattle.xa_worker.proofs.Workers.{Mounts, mounts, mounts-above}

-- ---- entries by their stamps

-- the entry before the first of these whose stamp is no smaller
abbrev insert : Stamped → List Stamped → List Stamped
insert x [] = x ∷ []
insert x (y ∷ ys) = if nat_le x.stamp.0 y.stamp.0 then x ∷ y ∷ ys else y ∷ insert x ys

abbrev in_order : List Stamped → List Stamped
in_order [] = []
in_order (x ∷ xs) = insert x (in_order xs)

module _ (x y : Stamped) (ys : List Stamped) where
  before : nat_le x.stamp.0 y.stamp.0 ≡ true → insert x (y ∷ ys) ≡ x ∷ y ∷ ys
  before is = ap (λ b. if b then x ∷ y ∷ ys else y ∷ insert x ys) is

  behind : nat_le x.stamp.0 y.stamp.0 ≡ false → insert x (y ∷ ys) ≡ y ∷ insert x ys
  behind is = ap (λ b. if b then x ∷ y ∷ ys else y ∷ insert x ys) is

insert-climbs : (low : ℕ) (x : Stamped) (ys : List Stamped) → low ≤ x.stamp.0 → Climbs low ys → Climbs low (insert x ys)
insert-climbs low x [] least climbs = (least, tt)
insert-climbs low x (y ∷ ys) least climbs = elim (cases_Bool (nat_le x.stamp.0 y.stamp.0)) [
  | inl is ↦ subst (Climbs low) (sym (before x y ys is)) (least, (leb-true x.stamp.0 y.stamp.0 is, climbs.1))
  | inr not ↦ let less = leb-false x.stamp.0 y.stamp.0 not in subst (Climbs low) (sym (behind x y ys not)) (climbs.0, insert-climbs y.stamp.0 x ys (omega (arith, less)) climbs.1)
]

in_order-climbs : (xs : List Stamped) → Climbs 0 (in_order xs)
in_order-climbs [] = tt
in_order-climbs (x ∷ xs) = insert-climbs 0 x (in_order xs) (omega arith) (in_order-climbs xs)

-- what passes a test stays in its order, where its stamps rise
module _ (p : Stamped → Bool) where
  passes_over : (x : Stamped) (ys : List Stamped) → p x ≡ false → filter p (insert x ys) ≡ filter p ys
  passes_over x [] off = filter-no p x [] off
  passes_over x (y ∷ ys) off = elim (cases_Bool (nat_le x.stamp.0 y.stamp.0)) [
    | inl is ↦ ap (filter p) (before x y ys is) ∙ filter-no p x (y ∷ ys) off
    | inr not ↦ ap (filter p) (behind x y ys not) ∙ ap (λ zs. cond (p y) (y ∷ zs) zs) (passes_over x ys off)
  ]

  comes_first : (x : Stamped) (ys : List Stamped) → p x ≡ true → All (λ (y : Stamped). x.stamp.0 < y.stamp.0) (filter p ys) → filter p (insert x ys) ≡ x ∷ filter p ys
  comes_first x [] on above = filter-yes p x [] on
  comes_first x (y ∷ ys) on above = elim (cases_Bool (nat_le x.stamp.0 y.stamp.0)) [
    | inl is ↦ ap (filter p) (before x y ys is) ∙ filter-yes p x (y ∷ ys) on
    | inr not ↦ elim (cases_Bool (p y)) [
      | inl its ↦
          let more = All-head (λ (y : Stamped). x.stamp.0 < y.stamp.0) y (filter p ys) (subst (All (λ (y : Stamped). x.stamp.0 < y.stamp.0)) (filter-yes p y ys its) above) in
          let less = leb-false x.stamp.0 y.stamp.0 not in
          absurd (omega (arith, more, less))
      | inr other ↦
          let rest = filter-no p y ys other in
          ap (filter p) (behind x y ys not) ∙ (filter-no p y (insert x ys) other ∙ (comes_first x ys on (subst (All (λ (y : Stamped). x.stamp.0 < y.stamp.0)) rest above) ∙ ap (λ zs. x ∷ zs) (sym rest)))
    ]
  ]

  in_order-filter : (low : ℕ) (xs : List Stamped) → Mounts low (filter p xs) → filter p (in_order xs) ≡ filter p xs
  in_order-filter low [] mount = refl
  in_order-filter low (x ∷ xs) mount = elim (cases_Bool (p x)) [
    | inl on ↦
        let rises = subst (Mounts low) (filter-yes p x xs on) mount in
        let rest = in_order-filter x.stamp.0 xs rises.1 in
        comes_first x (in_order xs) on (subst (All (λ (y : Stamped). x.stamp.0 < y.stamp.0)) (sym rest) (mounts-above x.stamp.0 (filter p xs) rises.1)) ∙ (ap (λ zs. x ∷ zs) rest ∙ sym (filter-yes p x xs on))
    | inr off ↦ passes_over x (in_order xs) off ∙ (in_order-filter low xs (subst (Mounts low) (filter-no p x xs off) mount) ∙ sym (filter-no p x xs off))
  ]

-- ---- the entries of all homes

module _ (setup : Setup) (clients : ℕ) (held : Home → List Stamped) (each : (home : Home) → IsHeld setup clients home (held home)) where
  abbrev at : Home → Stamped → Bool
  at home = stands_at setup clients home

  abbrev all_held : List Home → List Stamped
  all_held [] = []
  all_held (home ∷ names) = held home ++ all_held names

  -- at a home only its own
  held_at : (home other : Home) (b : Bool) → same_home home other ≡ b → filter (at home) (held other) ≡ cond b (held home) []
  held_at home other true is =
      let same = same_home-is home other is in
      subst (λ (h : Home). filter (at home) (held h) ≡ held home) same
      (filter_all (at home) (held home) (All-weaker (λ (x : Stamped). home_of setup clients x.event ≡ home) (λ (x : Stamped). at home x ≡ true) (λ x stands. ap (λ h. same_home h home) stands ∙ same_home-self home) (held home) (each home).stand))
  held_at home other false is =
      filter-none (at home) (held other) (All-weaker (λ (x : Stamped). home_of setup clients x.event ≡ other) (λ (x : Stamped). at home x ≡ false) (λ x stands. ap (λ h. same_home h home) stands ∙ (same_home-sym other home ∙ is)) (held other) (each other).stand)

  none_held : (home : Home) (names : List Home) → count (same_home home) names ≡ 0 → filter (at home) (all_held names) ≡ []
  none_held home [] none = refl
  none_held home (other ∷ names) none = elim (cases_Bool (same_home home other)) [
    | inl same ↦ absurd (omega (arith, none, count_yes (same_home home) other names same))
    | inr apart ↦ filter-append (at home) (held other) (all_held names) ∙ (ap (λ xs. xs ++ filter (at home) (all_held names)) (held_at home other false apart) ∙ none_held home names (sym (count_no (same_home home) other names apart) ∙ none))
  ]

  once_held : (home : Home) (names : List Home) → count (same_home home) names ≡ 1 → filter (at home) (all_held names) ≡ held home
  once_held home [] one = absurd (omega (arith, one))
  once_held home (other ∷ names) one = elim (cases_Bool (same_home home other)) [
    | inl same ↦
        let none : count (same_home home) names ≡ 0 = omega (arith, one, count_yes (same_home home) other names same) in
        filter-append (at home) (held other) (all_held names) ∙ (ap (λ xs. xs ++ filter (at home) (all_held names)) (held_at home other true same) ∙ (ap (λ xs. held home ++ xs) (none_held home names none) ∙ append-nil (held home)))
    | inr apart ↦ filter-append (at home) (held other) (all_held names) ∙ (ap (λ xs. xs ++ filter (at home) (all_held names)) (held_at home other false apart) ∙ once_held home names (sym (count_no (same_home home) other names apart) ∙ one))
  ]

  module _ (names : List Home) (once : (home : Home) → count (same_home home) names ≤ 1) (rest : (home : Home) → count (same_home home) names ≡ 0 → held home ≡ []) where
    gathered : (home : Home) → filter (at home) (all_held names) ≡ held home
    gathered home = elim (cases_Bool (count (same_home home) names == 0)) [
      | inl y ↦ let none = eqb-true (count (same_home home) names) 0 y in none_held home names none ∙ sym (rest home none)
      | inr n ↦ once_held home names (exactly_one (count (same_home home) names) (once home) n)
    ]

    pub some_merge : (merged : List Stamped) × IsMergeOf setup clients held merged (map (λ (x : Stamped). x.event) merged)
    some_merge = (
      in_order (all_held names),
      record {
        events = refl;
        climbs = in_order-climbs (all_held names);
        theirs = λ home.
            let its = each home in
            in_order-filter (at home) its.first.0 (all_held names) (subst (Mounts its.first.0) (sym (gathered home)) (mounts its.first (held home) its.rises)) ∙ gathered home;
      },
    )
