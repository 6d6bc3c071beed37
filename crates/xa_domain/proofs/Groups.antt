-- The first worker and the rest are all workers.
use Rattle.std.proofs.Common.{◌≡◌, ℕ, zero, suc, ◌+◌, ◌<◌, List, ◌∷◌, length, get_or, subst, arith}
use denote.Ref.{Bor, MutBor}
use denote.Param.Members.{Shared}
use Rattle.xa_domain.specs.Beside.{MayWorkAt, WorkedAt, EachMayWorkFrom, EachWorkedFrom}

module _ {F S W : Type 0} (g : Shared F (Bor S × (ℕ × (MutBor W × Unit {0}))) (Unit {0} × (MutBor W × Unit {0}))) (work : F) (s : S) (from : ℕ) (first : W) (rest : List W) where
  pub first_may : EachMayWorkFrom g work s from (first ∷ rest) → MayWorkAt g work s from first
  first_may may = let same : from + 0 ≡ from = omega arith in subst (λ k. MayWorkAt g work s k first) same (may 0 first (omega arith))

  pub rest_may : EachMayWorkFrom g work s from (first ∷ rest) → EachMayWorkFrom g work s (from + 1) rest
  rest_may may place w within =
      let same : from + suc place ≡ from + 1 + place = omega arith in subst (λ k. MayWorkAt g work s k (get_or rest place w)) same (may (suc place) w (omega (arith, within)))

  pub all_worked : (first' : W) (rest' : List W) → WorkedAt g work s from first first' → EachWorkedFrom g work s (from + 1) rest rest' → EachWorkedFrom g work s from (first ∷ rest) (first' ∷ rest')
  all_worked first' rest' one others = record { each = at } where
    at : (place : ℕ) (w : W) → place < suc (length rest) → WorkedAt g work s (from + place) (get_or (first ∷ rest) place w) (get_or (first' ∷ rest') place w)
    at zero w within = let same : from ≡ from + 0 = omega arith in subst (λ k. WorkedAt g work s k first first') same one
    at (suc place) w within =
        let same : from + 1 + place ≡ from + suc place = omega arith in subst (λ k. WorkedAt g work s k (get_or rest place w) (get_or rest' place w)) same (others.each place w (omega (arith, within)))
