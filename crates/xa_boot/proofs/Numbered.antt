-- What holds of each entry of a list with its number.
use Rattle.std.proofs.Common.{◌≡◌, ℕ, suc, ◌+◌, ◌<◌, List, [], ◌∷◌, ◌++◌, length, get_or, subst, arith}
use Rattle.std.specs.List.{All}
use Rattle.std.proofs.lemmas.List.Elements.{All-nil, All-cons}
use Rattle.xa_client_worker.specs.xa_events.Words.{EachNumbered}

module _ {X : Type 0} (P : ℕ → X → Type 0) where
  pub numbered-from : (n : ℕ) (xs : List X) → ((k : ℕ) (d : X) → k < length xs → P (n + k) (get_or xs k d)) → EachNumbered P n xs
  numbered-from n [] at = tt
  numbered-from n (x ∷ xs) at = (
    subst (λ k. P k x) (omega arith) (at 0 x (omega arith)),
    numbered-from (n + 1) xs (λ k d within. let same : n + suc k ≡ n + 1 + k = omega arith in subst (λ j. P j (get_or xs k d)) same (at (suc k) d (omega (arith, within)))),
  )

  pub numbered-push : (n : ℕ) (xs : List X) (x : X) → EachNumbered P n xs → P (n + length xs) x → EachNumbered P n (xs ++ x ∷ [])
  numbered-push n [] x each is = (subst (λ k. P k x) (omega arith) is, tt)
  numbered-push n (y ∷ xs) x each is = let same : n + suc (length xs) ≡ n + 1 + length xs = omega arith in (each.0, numbered-push (n + 1) xs x each.1 (subst (λ k. P k x) same is))

  pub numbered-pop : (n : ℕ) (xs : List X) (x : X) → EachNumbered P n (xs ++ x ∷ []) → EachNumbered P n xs × P (n + length xs) x
  numbered-pop n [] x each = (tt, subst (λ k. P k x) (omega arith) each.0)
  numbered-pop n (y ∷ xs) x each =
      let rest = numbered-pop (n + 1) xs x each.1 in
      let same : n + 1 + length xs ≡ n + suc (length xs) = omega arith in
      ((each.0, rest.0), subst (λ k. P k x) same rest.1)

  pub numbered-all : (Q : X → Type 0) → ((k : ℕ) (x : X) → P k x → Q x) → (n : ℕ) (xs : List X) → EachNumbered P n xs → All Q xs
  numbered-all Q from n [] each = All-nil Q
  numbered-all Q from n (x ∷ xs) each = All-cons Q x xs (from n x each.0) (numbered-all Q from (n + 1) xs each.1)

  pub numbered-here : (xs : List X) → ((k : ℕ) (d : X) → k < length xs → P k (get_or xs k d)) → EachNumbered P 0 xs
  numbered-here xs at = numbered-from 0 xs (λ k d within. let same : k ≡ 0 + k = omega arith in subst (λ j. P j (get_or xs k d)) same (at k d within))
