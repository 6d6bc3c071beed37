-- How often a number stands in a list (this project's own).
use Rattle.std.specs.Prelude.{ℕ, ◌+◌, ◌==◌, Bool, true, false, List, [], ◌∷◌}
use Rattle.xa_cell.specs.declared.view.Fill.{Fill}

-- 1 where it is so, and 0 where it isn't
abbrev pub once : Bool → ℕ
once false = 0
once true = 1

-- how many of them pass the test
abbrev pub how_many : {X : Type 0} → (X → Bool) → List X → ℕ
how_many test [] = 0
how_many test (x ∷ xs) = once (test x) + how_many test xs

-- how many are this number
abbrev pub among : ℕ → List ℕ → ℕ
among n xs = how_many (λ x. x == n) xs

-- how many of the answers are of the opening with this number
abbrev pub times : {A : Type 0} → ℕ → List (Fill A) → ℕ
times n es = how_many (λ e. e.opening.number == n) es
