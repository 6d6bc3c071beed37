-- Lives as they are kept in memory.
use Rattle.std.specs.Prelude.{ℕ, zero, suc, List, Option, None, option_and_then}
use Rattle.std.specs.List.{slice_get}

-- the life of that generation, counted from 1, where one stands for it
abbrev pub life_of : {L : Type 0} → List (Option L) → ℕ → Option L
life_of lives zero = None
life_of lives (suc n) = option_and_then (λ life. life) (slice_get lives n)
