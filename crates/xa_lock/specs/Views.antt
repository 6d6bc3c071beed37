-- What a seat of a lock's table knows. No public contract rests on this file.
use Rattle.std.specs.Prelude.{◌≡◌, ℕ, zero, suc, true, false, List, [], ◌∷◌, ◌++◌, Option}
use Rattle.atomic_table.specs.Table.{Me}
use Rattle.xa_lock.specs.declared.pass.Page.{Page}
use Rattle.xa_lock.specs.declared.pass.SeatView.{SeatView}
use Rattle.xa_lock.specs.Pages.{first_of, mine, first_page}

module _ {E : Type 0} where
  -- a seat with these pages, and the value isn't out with it
  abbrev pub idle : List (Page E) → SeatView E
  idle pages = record { pages = pages; holds = false }

  -- a seat with one page, and the value is out with it
  abbrev pub holding : Page E → SeatView E
  holding p = record { pages = p ∷ []; holds = true }

  abbrev pub rest_of : List (Page E) → List (Page E)
  rest_of [] = []
  rest_of (p ∷ ps) = ps

  abbrev pub first_only : SeatView E → SeatView E
  first_only v = idle (first_of v.pages ∷ [])

  abbrev pub but_first : SeatView E → SeatView E
  but_first v = idle (rest_of v.pages)

  abbrev pub before : SeatView E → SeatView E → SeatView E
  before v other = idle (other.pages ++ v.pages)

  -- the pages of so many makers at the start, from maker k on
  abbrev pub first_pages : List E → ℕ → ℕ → List (Page E)
  first_pages entries k zero = []
  first_pages entries k (suc count) = first_page k entries ∷ first_pages entries (suc k) count

-- the seat has one page, and no slot
abbrev pub IsIdle : {T E : Type 0} → Me (Option T) (SeatView E) → Type 0
IsIdle m = m ≡ (idle (mine m.0 ∷ []), [])
