-- Two lists with the same members that are both in one order are the same.
use Rattle.std.proofs.Common.{◌≡◌, ℕ, ◌+◌, Bool, true, false, cond, List, [], ◌∷◌, suc, zero-add, refl, sym, ◌∙◌, ap, subst, arith, slice_index_or, IsPermutation, IsSortedBy}
use Rattle.std.specs.Cmp.{IsStrictWeakOrder}
use Rattle.std.specs.List.{filter}
use Rattle.std.proofs.lemmas.Bool.{false≢true}
use Rattle.std.proofs.lemmas.List.Recursion.{is_sum_by}
use Rattle.std.proofs.lemmas.List.Sorted.{sum_by-IsPermutation}
use Rattle.std.proofs.lemmas.List.Kept.{IsSortedBy-filter}

abbrev neither : Bool → Bool → ℕ
neither false false = 1
neither false true = 0
neither true b = 0

-- how many are neither before x nor behind it
abbrev level : {X : Type 0} → (X → X → Bool) → X → List X → ℕ
level before x [] = 0
level before x (y ∷ ys) = neither (before x y) (before y x) + level before x ys

-- none is before the one that stands before it
abbrev pub Up : {X : Type 0} → (X → X → Bool) → List X → Type 0
Up before [] = Unit {0}
Up before (x ∷ []) = Unit {0}
Up before (x ∷ y ∷ ys) = (before y x ≡ false) × Up before (y ∷ ys)

Up-rest : {X : Type 0} (before : X → X → Bool) (x : X) (xs : List X) → Up before (x ∷ xs) → Up before xs
Up-rest before x [] up = tt
Up-rest before x (y ∷ ys) up = up.1

sorted-rest : {X : Type 0} (before : X → X → Bool) (x : X) (xs : List X) → IsSortedBy before (x ∷ xs) → IsSortedBy before xs
sorted-rest {X} before x xs sorted k d low high =
    let P : ℕ → Type 0 = λ n. before (slice_index_or (x ∷ xs) n d) (slice_index_or (x ∷ xs) (suc k) d) ≡ false in
    let at : suc k + 1 ≡ suc (k + 1) = omega arith in
    subst P at (sorted (suc k) d (omega arith) (omega (arith, high)))

pub Up-sorted : {X : Type 0} (before : X → X → Bool) (xs : List X) → IsSortedBy before xs → Up before xs
Up-sorted before [] sorted = tt
Up-sorted before (x ∷ []) sorted = tt
Up-sorted before (x ∷ y ∷ ys) sorted = (sorted 0 x (omega arith) (omega arith), Up-sorted before (y ∷ ys) (sorted-rest before x (y ∷ ys) sorted))

level-permutation : {X : Type 0} (before : X → X → Bool) (x : X) (xs ys : List X) → IsPermutation xs ys → level before x ys ≡ level before x xs
level-permutation {X} before x xs ys moved =
    let f : X → ℕ = λ y. neither (before x y) (before y x) in
    is_sum_by (level before x) f refl (λ _ _. refl) ys ∙ sum_by-IsPermutation f xs ys moved ∙ sym (is_sum_by (level before x) f refl (λ _ _. refl) xs)

irreflexive : {X : Type 0} (before : X → X → Bool) (order : IsStrictWeakOrder before) (x : X) (b : Bool) → before x x ≡ b → before x x ≡ false
irreflexive before order x false is = is
irreflexive before order x true is = order.one_way x x is

level-itself : {X : Type 0} (before : X → X → Bool) (order : IsStrictWeakOrder before) (x : X) (xs : List X) → level before x (x ∷ xs) ≡ 1 + level before x xs
level-itself before order x xs = rw (irreflexive before order x _ refl) refl

still_before : {X : Type 0} (before : X → X → Bool) (order : IsStrictWeakOrder before) (x y z : X) (b : Bool) → before x z ≡ b → before x y ≡ true → before z y ≡ false → before x z ≡ true
still_before before order x y z true is less up = is
still_before before order x y z false is less up = absurd (false≢true (sym (order.chain x z y is up) ∙ less))

-- what stands before the first stands nowhere
level-none : {X : Type 0} (before : X → X → Bool) (order : IsStrictWeakOrder before) (x y : X) (ys : List X) → Up before (y ∷ ys) → before x y ≡ true → level before x (y ∷ ys) ≡ 0
level-none before order x y [] up less = rw less refl
level-none before order x y (z ∷ ys) up less =
    let none = level-none before order x z ys up.1 (still_before before order x y z _ refl less up.0) in
    rw less (zero-add _ ∙ none)

first_same : {X : Type 0} (before : X → X → Bool) (order : IsStrictWeakOrder before) → ((x y : X) → before x y ≡ false → before y x ≡ false → x ≡ y) → (x y : X) (xs ys : List X) → Up before (x ∷ xs) → Up before (y ∷ ys) → ((z : X) → level before z (x ∷ xs) ≡ level before z (y ∷ ys)) → (b c : Bool) → before x y ≡ b → before y x ≡ c → x ≡ y
first_same before order same x y xs ys up' up levels true c is is' =
    absurd (omega (arith, levels x, level-itself before order x xs, level-none before order x y ys up is))
first_same before order same x y xs ys up' up levels false true is is' =
    absurd (omega (arith, levels y, level-itself before order y ys, level-none before order y x xs up' is'))
first_same before order same x y xs ys up' up levels false false is is' = same x y is is'

same_from_levels : {X : Type 0} (before : X → X → Bool) (order : IsStrictWeakOrder before) → ((x y : X) → before x y ≡ false → before y x ≡ false → x ≡ y) → (xs ys : List X) → Up before xs → Up before ys → ((x : X) → level before x xs ≡ level before x ys) → xs ≡ ys
same_from_levels before order same [] [] up' up levels = refl
same_from_levels before order same [] (y ∷ ys) up' up levels = absurd (omega (arith, levels y, level-itself before order y ys))
same_from_levels before order same (x ∷ xs) [] up' up levels = absurd (omega (arith, levels x, level-itself before order x xs))
same_from_levels before order same (x ∷ xs) (y ∷ ys) up' up levels =
    let first = first_same before order same x y xs ys up' up levels (before x y) (before y x) refl refl in
    ap (λ z. z ∷ xs) first ∙ ap (λ zs. y ∷ zs) (same_from_levels before order same xs ys (Up-rest before x xs up') (Up-rest before y ys up) (λ z.
    let one : neither (before z x) (before x z) ≡ neither (before z y) (before y z) = ap (λ w. neither (before z w) (before w z)) first in
    omega (arith, levels z, one)))

-- the same members in one order are one list
pub same_from_permutations : {X : Type 0} (before : X → X → Bool) (order : IsStrictWeakOrder before) → ((x y : X) → before x y ≡ false → before y x ≡ false → x ≡ y) → (all xs ys : List X) → IsPermutation all xs → IsPermutation all ys → IsSortedBy before xs → IsSortedBy before ys → xs ≡ ys
same_from_permutations before order same all xs ys moved moved' sorted sorted' =
    same_from_levels before order same xs ys (Up-sorted before xs sorted) (Up-sorted before ys sorted') (λ x. level-permutation before x all xs moved ∙ sym (level-permutation before x all ys moved'))

level-kept : {X : Type 0} (before : X → X → Bool) (z y : X) (b : Bool) (rest : List X) → level before z (cond b (y ∷ rest) rest) ≡ cond b (neither (before z y) (before y z)) 0 + level before z rest
level-kept before z y true rest = refl
level-kept before z y false rest = sym (zero-add _)

level-filtered : {X : Type 0} (before : X → X → Bool) (q : X → Bool) (z : X) (xs ys : List X) → IsPermutation xs ys → level before z (filter q ys) ≡ level before z (filter q xs)
level-filtered {X} before q z xs ys moved =
    let f : X → ℕ = λ y. cond (q y) (neither (before z y) (before y z)) 0 in
    let step : (y : X) (rest : List X) → level before z (filter q (y ∷ rest)) ≡ f y + level before z (filter q rest) = λ y rest. level-kept before z y (q y) (filter q rest) in
    is_sum_by (λ l. level before z (filter q l)) f refl step ys ∙ sum_by-IsPermutation f xs ys moved ∙ sym (is_sum_by (λ l. level before z (filter q l)) f refl step xs)

-- what a test passes of a list in order is what it passes of another one with the same members, where that is in order too
pub same_filtered : {X : Type 0} (before : X → X → Bool) (order : IsStrictWeakOrder before) → ((x y : X) → before x y ≡ false → before y x ≡ false → x ≡ y) → (q : X → Bool) (xs ys : List X) → IsPermutation xs ys → Up before (filter q xs) → IsSortedBy before ys → filter q ys ≡ filter q xs
same_filtered before order same q xs ys moved up sorted =
    same_from_levels before order same (filter q ys) (filter q xs) (Up-sorted before (filter q ys) (IsSortedBy-filter before order q ys sorted)) up (λ z. level-filtered before q z xs ys moved)
