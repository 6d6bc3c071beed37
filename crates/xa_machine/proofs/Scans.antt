-- A loop over a list, the oldest first, against a recursion over the same list, the newest first.
use Rattle.std.specs.Prelude.{nat_le, max, ◌&&◌}
use Rattle.std.specs.List.{find, list_all}
use Rattle.std.proofs.Math.Bool.{and-false}
use Rattle.std.proofs.Math.Nat.{le-max_left, le-max_right}
use Rattle.std.proofs.lemmas.Bool.{cases_Bool, leb-true, leb-false, le-leb, lt-leb}
use Rattle.std.proofs.lemmas.List.Folds.{list_all_more}
use Rattle.std.proofs.Common.{Bool, true, false, cond, Some, suc, drop, add-one, drop-cons, arith, subst, inl, inr, ◌≡◌, ℕ, ◌+◌, ◌-◌, ◌<◌, ◌≤◌, List, [], ◌∷◌, ◌++◌, length, reverse, take, get_or, sym, ◌∙◌, ap}
use Rattle.std.proofs.lemmas.List.{reverse-append, take_more}

-- the newest of the events stands first
pub newest : {X : Type 0} (xs : List X) (e : X) → reverse (xs ++ e ∷ []) ≡ e ∷ reverse xs
newest xs e = reverse-append xs (e ∷ [])

-- one more of the list was gone over
pub one_on : {X : Type 0} (xs : List X) (i : ℕ) (d : X) → i < length xs → reverse (take (i + 1) xs) ≡ get_or xs i d ∷ reverse (take i xs)
one_on xs i d within = rw (take_more xs i d within) (newest (take i xs) (get_or xs i d))

pub one_more : {X : Type 0} (xs : List X) (i : ℕ) (x : X) → i < length xs → x ≡ get_or xs i x → reverse (take (i + 1) xs) ≡ x ∷ reverse (take i xs)
one_more xs i x within read = one_on xs i x within ∙ ap (λ y. y ∷ reverse (take i xs)) (sym read)

-- ---- the first that passes

pub find_here : {X : Type 0} (p : X → Bool) (xs : List X) (i : ℕ) (d : X) → i < length xs → p (get_or xs i d) ≡ true → find p (drop i xs) ≡ Some (get_or xs i d)
find_here p xs i d within h = rw (drop-cons xs i d within) (ap (λ b. cond b (Some (get_or xs i d)) (find p (drop (suc i) xs))) h)

pub find_on : {X : Type 0} (p : X → Bool) (xs : List X) (i : ℕ) (d : X) → i < length xs → p (get_or xs i d) ≡ false → find p (drop i xs) ≡ find p (drop (i + 1) xs)
find_on p xs i d within h = rw (drop-cons xs i d within, add-one) (ap (λ b. cond b (Some (get_or xs i d)) (find p (drop (suc i) xs))) h)

-- ---- the newest first

-- from the newest back, the i-th is looked at before those behind it
pub newest_first : {X : Type 0} (xs : List X) (i : ℕ) (x : X) → 0 < i → i ≤ length xs → x ≡ get_or xs (i - 1) x → reverse (take i xs) ≡ x ∷ reverse (take (i - 1) xs)
newest_first xs i x more within read =
    let back : i - 1 + 1 ≡ i = omega (arith, more) in
    subst (λ n. reverse (take n xs) ≡ x ∷ reverse (take (i - 1) xs)) back (one_more xs (i - 1) x (omega (arith, more, within)) read)

pub none_left : {X : Type 0} (xs : List X) (i : ℕ) → i ≤ 0 → reverse (take i xs) ≡ []
none_left xs i h = let none : i ≡ 0 = omega (arith, h) in ap (λ n. reverse (take n xs)) none

pub find_skips : {X : Type 0} (p : X → Bool) (x : X) (xs : List X) → p x ≡ false → find p (x ∷ xs) ≡ find p xs
find_skips p x xs h = ap (λ b. cond b (Some x) (find p xs)) h

pub find_stops : {X : Type 0} (p : X → Bool) (x : X) (xs : List X) → p x ≡ true → find p (x ∷ xs) ≡ Some x
find_stops p x xs h = ap (λ b. cond b (Some x) (find p xs)) h

-- ---- the greatest

both_within : (a b n : ℕ) → (nat_le b n && nat_le a n) ≡ nat_le (max a b) n
both_within a b n = elim (cases_Bool (nat_le a n)) [
  | inl low ↦ elim (cases_Bool (nat_le b n)) [
    | inl other ↦
        let one : a ≤ n = leb-true a n low in
        let two : b ≤ n = leb-true b n other in
        rw (low, other) (sym (le-leb (max a b) n (omega (arith, one, two))))
    | inr other ↦
        let two : n < b = leb-false b n other in
        let over = le-max_right a b in
        rw (low, other) (sym (lt-leb (max a b) n (omega (arith, two, over))))
  ]
  | inr high ↦
      let one : n < a = leb-false a n high in
      let over = le-max_left a b in
      rw (high) (and-false (nat_le b n) ∙ sym (lt-leb (max a b) n (omega (arith, one, over))))
]

-- one more is no greater than n where the greatest isn't
pub all_within : {X : Type 0} (f : X → ℕ) (xs : List X) (i : ℕ) (d : X) (high this next n : ℕ) → i < length xs → list_all (λ x. nat_le (f x) n) (take i xs) ≡ nat_le high n
    → this ≡ f (get_or xs i d) → next ≡ max this high → list_all (λ x. nat_le (f x) n) (take (i + 1) xs) ≡ nat_le next n
all_within f xs i d high this next n within so_far is most =
    list_all_more (λ x. nat_le (f x) n) xs i d within ∙ (ap (λ b. b && nat_le (f (get_or xs i d)) n) so_far ∙ (ap (λ k. nat_le high n && nat_le k n) (sym is)
    ∙ (both_within this high n ∙ ap (λ k. nat_le k n) (sym most))))
