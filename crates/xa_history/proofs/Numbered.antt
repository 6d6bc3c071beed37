-- What holds of each with its number.
use Rattle.std.proofs.Common.{◌≡◌, ℕ, zero, suc, ◌+◌, ◌<◌, List, [], ◌∷◌, length, Option, Some, None, refl, subst, arith}
use Rattle.std.specs.Prelude.{slice_get, IsSomeAnd, map}
use Rattle.std.proofs.lemmas.Option.{slice_get_within}
use Rattle.xa_client_worker.specs.xa_types.Setup.{numbered}
use Rattle.xa_client_worker.specs.xa_events.Words.{EachNumbered}
use Rattle.xa_history.proofs.Listed.{one_there}

pub some_there : {X : Type 0} (P : X → Type 0) (o : Option X) → IsSomeAnd o P → (x : X) × (o ≡ Some x) × P x
some_there P None h = absurd h
some_there P (Some x) h = (x, refl, h)

pub numbered_within : {X : Type 0} (n : ℕ) (xs : List X) (x : X) → numbered n xs ≡ Some x → (0 < n) × (n < length xs + 1)
numbered_within zero xs x there = absurd (cc there)
numbered_within (suc k) xs x there = let low = slice_get_within xs k x there in (omega arith, omega (arith, low))

pub numbered_there : {X : Type 0} (n : ℕ) (xs : List X) → 0 < n → n < length xs + 1 → (x : X) × (numbered n xs ≡ Some x)
numbered_there zero xs some low = absurd (omega (arith, some))
numbered_there (suc k) xs some low = one_there xs k (omega (arith, low))

module _ {X : Type 0} (P : ℕ → X → Type 0) where
  at_place : (n k : ℕ) (xs : List X) (x : X) → EachNumbered P n xs → slice_get xs k ≡ Some x → P (k + n) x
  at_place n k [] x each there = absurd (cc there)
  at_place n zero (y ∷ xs) x each there = let same : y ≡ x = cc there in let none : n ≡ zero + n = omega arith in subst (λ (m : ℕ). P m x) none (subst (P n) same each.0)
  at_place n (suc k) (y ∷ xs) x each there = let next : k + (n + 1) ≡ suc k + n = omega arith in subst (λ (m : ℕ). P m x) next (at_place (n + 1) k xs x each.1 there)

  pub each_at : (n : ℕ) (xs : List X) (x : X) → EachNumbered P 1 xs → numbered n xs ≡ Some x → P n x
  each_at zero xs x each there = absurd (cc there)
  each_at (suc k) xs x each there = let is : k + 1 ≡ suc k = omega arith in subst (λ (m : ℕ). P m x) is (at_place 1 k xs x each there)

  by_place : (n : ℕ) (xs : List X) → ((k : ℕ) (x : X) → slice_get xs k ≡ Some x → P (k + n) x) → EachNumbered P n xs
  by_place n [] holds = tt
  by_place n (y ∷ xs) holds =
      let none : zero + n ≡ n = omega arith in (
        subst (λ (m : ℕ). P m y) none (holds zero y refl),
        by_place (n + 1) xs (λ k x there. let next : suc k + n ≡ k + (n + 1) = omega arith in subst (λ (m : ℕ). P m x) next (holds (suc k) x there)),
      )

  pub each_from : (xs : List X) → ((n : ℕ) (x : X) → numbered n xs ≡ Some x → P n x) → EachNumbered P 1 xs
  each_from xs holds = by_place 1 xs (λ k x there. let is : suc k ≡ k + 1 = omega arith in subst (λ (m : ℕ). P m x) is (holds (suc k) x there))

pub each_map : {X Y : Type 0} (P : ℕ → Y → Type 0) (f : X → Y) (n : ℕ) (xs : List X) → EachNumbered (λ k x. P k (f x)) n xs → EachNumbered P n (map f xs)
each_map P f n [] each = tt
each_map P f n (x ∷ xs) each = (each.0, each_map P f (n + 1) xs each.1)
