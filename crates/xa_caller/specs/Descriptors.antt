-- The requests that are out (this project's own).
use Rattle.std.specs.Prelude.{◌≡◌, ℕ, ◌==◌, Bool, List, ◌∷◌, ◌++◌, length}
use Rattle.xa_caller.specs.declared.phase.Open.{Open}

-- what they are: each with its place, in order, and for how many more there is room
pub record InOrder : Type 0 where
  pub all : List Open
  pub room : ℕ

-- it stands at that place, counted from 0, between these
pub record StandsAt (place : ℕ) (open' : Open) (all : List Open) : Type 0 where
  pub front : List Open
  pub back : List Open
  pub is : all ≡ front ++ open' ∷ back
  pub before : length front ≡ place

-- the descriptor is that of the request
abbrev pub is_at : ℕ → Open → Bool
is_at descriptor open' = open'.request.number == descriptor
