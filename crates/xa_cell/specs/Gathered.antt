-- Seats that came into one another, and the seat that has all cells. No public contract rests on this file.
use Rattle.std.specs.Prelude.{◌≡◌, ℕ, List, [], ◌∷◌, length, Option}
use Rattle.atomic_table.specs.declared.shared.Seat.{Seat as TableSeat}
use Rattle.xa_cell.specs.declared.cells.Cells.{Cells}
use Rattle.xa_cell.specs.declared.tokens.Seat.{Seat}
use Rattle.xa_cell.specs.declared.view.Carried.{Carried}
use Rattle.xa_cell.specs.declared.view.Part.{Part}
use Rattle.xa_cell.specs.declared.view.View.{View}
use Rattle.xa_cell.specs.Views.{at, blank}
use Rattle.xa_cell.specs.Dealing.{cells_in, whole}
use Rattle.xa_cell.specs.Joined.{with}
use Rattle.xa_cell.specs.Law.{parts_of}

module _ {A : Type 0} where
  -- the seat has all cells of callers with these limits
  pub record HasAll (cells : Cells A) (limits : List ℕ) (s : TableSeat (Option (Carried A)) (View A)) : Type 0 where
    pub table : s.table_id ≡ cells.table.shared.table_id
    pub me : s.me ≡ (whole limits, [])
    pub words : cells_in limits ≡ s.table_id.words

  -- these parts as one, the last first
  abbrev pub merged : List (Part A) → Part A
  merged [] = blank
  merged (p ∷ ps) = with (merged ps) p

  -- the view of a seat into which these came
  pub record Gathers (ss : List (Seat A)) (v : View A) : Type 0 where
    pub callers : length v.callers ≡ length ss
    pub parts : (k : ℕ) → at k v ≡ merged (parts_of k ss)
