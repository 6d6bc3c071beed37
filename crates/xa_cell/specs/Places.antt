-- Which places of a seat are open, and what a call makes of that (this project's own).
use Rattle.std.specs.Prelude.{◌≡◌, ◌≢◌, ℕ, ◌<◌, ◌≤◌, ◌==◌, if◌then◌else◌, List, [], ◌∷◌, length}
use Rattle.xa_types.specs.declared.ids.RequestId.{RequestId}
use Rattle.xa_cell.specs.declared.tokens.Place.{Place}
use Rattle.xa_cell.specs.declared.tokens.Seat.{Seat}
use Rattle.xa_cell.specs.declared.view.View.{View}
use Rattle.xa_cell.specs.Views.{at}
use Rattle.xa_cell.specs.Known.{known}

-- the requests of those of these places, each a cell and a request, that are at the cell k
abbrev pub requests_at : ℕ → List (ℕ × RequestId) → List RequestId
requests_at k [] = []
requests_at k (p ∷ ps) = if p.0 == k then p.1 ∷ requests_at k ps else requests_at k ps

module _ {A : Type 0} where
  -- the open places are these
  pub record OpenAre (ps : List (ℕ × RequestId)) (v : View A) : Type 0 where
    pub asked : (k : ℕ) → (at k v).asked ≡ requests_at k ps

  -- at the cell k a place is open for the same request or none is, and where the seat knew that its ticket is spent it still does
  abbrev pub StandsAt : ℕ → View A → View A → Type 0
  StandsAt k v w = ((at k w).asked ≡ (at k v).asked) × ((at k v).settled ≤ (at k w).settled)

  -- so it is at each cell
  pub record Stand (v w : View A) : Type 0 where
    pub each : (k : ℕ) → StandsAt k v w

  -- one place more is open, and the others stand
  pub record Opens (k : ℕ) (q : RequestId) (v w : View A) : Type 0 where
    pub shut : (at k v).asked ≡ []
    pub asked : (at k w).asked ≡ q ∷ []
    pub others : (j : ℕ) → j ≢ k → StandsAt j v w

  -- the place at this cell isn't open any more, and the others stand
  pub record Shuts (k : ℕ) (v w : View A) : Type 0 where
    pub shut : (at k w).asked ≡ []
    pub others : (j : ℕ) → j ≢ k → StandsAt j v w

  -- the place is an open one of this seat
  abbrev pub IsOpen : Seat A → Place → Type 0
  IsOpen s place = 0 < length (at place.cell (known s)).asked

  -- so it is, and a look found that its answer has come
  abbrev pub HasCome : Seat A → Place → Type 0
  HasCome s place = IsOpen s place × (0 < (at place.cell (known s)).settled)

  -- no place of the seat is open
  abbrev pub IsShut : Seat A → Type 0
  IsShut s = OpenAre [] (known s)
