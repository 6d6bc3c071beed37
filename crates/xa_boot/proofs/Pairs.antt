-- What holds of the entries of two lists with their number.
use Rattle.std.proofs.Common.{◌≡◌, ℕ, zero, suc, ◌+◌, ◌<◌, List, [], ◌∷◌, ◌++◌, length, get_or, refl, ap, subst, arith}
use Rattle.xa_boot.specs.Locking.{EachPair}

module _ {X Y : Type 0} (P : ℕ → X → Y → Type 0) where
  pub pair-length : (n : ℕ) (xs : List X) (ys : List Y) → EachPair P n xs ys → length xs ≡ length ys
  pair-length n [] [] each = refl
  pair-length n [] (y ∷ ys) each = absurd each
  pair-length n (x ∷ xs) [] each = absurd each
  pair-length n (x ∷ xs) (y ∷ ys) each = ap suc (pair-length (n + 1) xs ys each.1)

  pub pair-push : (n : ℕ) (xs : List X) (ys : List Y) (x : X) (y : Y) → EachPair P n xs ys → P (n + length xs) x y → EachPair P n (xs ++ x ∷ []) (ys ++ y ∷ [])
  pair-push n [] [] x y each is = (subst (λ k. P k x y) (omega arith) is, tt)
  pair-push n [] (z ∷ ys) x y each is = absurd each
  pair-push n (z ∷ xs) [] x y each is = absurd each
  pair-push n (z ∷ xs) (w ∷ ys) x y each is = let same : n + suc (length xs) ≡ n + 1 + length xs = omega arith in (each.0, pair-push (n + 1) xs ys x y each.1 (subst (λ k. P k x y) same is))

  pub pair-pop : (n : ℕ) (xs : List X) (ys : List Y) (x : X) (y : Y) → EachPair P n (xs ++ x ∷ []) (ys ++ y ∷ []) → EachPair P n xs ys × P (n + length xs) x y
  pair-pop n [] [] x y each = (tt, subst (λ k. P k x y) (omega arith) each.0)
  pair-pop n [] (z ∷ []) x y each = absurd each.1
  pair-pop n [] (z ∷ w ∷ ys) x y each = absurd each.1
  pair-pop n (z ∷ []) [] x y each = absurd each.1
  pair-pop n (z ∷ w ∷ xs) [] x y each = absurd each.1
  pair-pop n (z ∷ xs) (w ∷ ys) x y each =
      let rest = pair-pop (n + 1) xs ys x y each.1 in
      let same : n + 1 + length xs ≡ n + suc (length xs) = omega arith in
      ((each.0, rest.0), subst (λ k. P k x y) same rest.1)

  pub pair-at : (n : ℕ) (xs : List X) (ys : List Y) → EachPair P n xs ys → (k : ℕ) (a : X) (b : Y) → k < length xs → P (n + k) (get_or xs k a) (get_or ys k b)
  pair-at n [] ys each k a b within = absurd (omega (arith, within))
  pair-at n (x ∷ xs) [] each k a b within = absurd each
  pair-at n (x ∷ xs) (y ∷ ys) each zero a b within = subst (λ j. P j x y) (omega arith) each.0
  pair-at n (x ∷ xs) (y ∷ ys) each (suc k) a b within =
      let same : n + 1 + k ≡ n + suc k = omega arith in subst (λ j. P j (get_or xs k a) (get_or ys k b)) same (pair-at (n + 1) xs ys each.1 k a b (omega (arith, within)))

  pub pair-weaker : (Q : ℕ → X → Y → Type 0) → ((k : ℕ) (x : X) (y : Y) → P k x y → Q k x y) → (n : ℕ) (xs : List X) (ys : List Y) → EachPair P n xs ys → EachPair Q n xs ys
  pair-weaker Q from n [] [] each = tt
  pair-weaker Q from n [] (y ∷ ys) each = absurd each
  pair-weaker Q from n (x ∷ xs) [] each = absurd each
  pair-weaker Q from n (x ∷ xs) (y ∷ ys) each = (from n x y each.0, pair-weaker Q from (n + 1) xs ys each.1)
