-- What seats and tickets know, and of which cells they are (this project's own).
use Rattle.std.specs.Prelude.{◌≡◌, ℕ, ◌+◌, ◌<◌, ◌≤◌, List, [], ◌∷◌, length}
use Rattle.xa_cell.specs.declared.cells.Cells.{Cells}
use Rattle.xa_cell.specs.declared.tokens.Seat.{Seat}
use Rattle.xa_cell.specs.declared.tokens.Ticket.{Ticket}
use Rattle.xa_cell.specs.declared.view.Opening.{Opening}
use Rattle.xa_cell.specs.declared.view.View.{View}
use Rattle.xa_cell.specs.Views.{at, blank}
use Rattle.xa_cell.specs.Tokens.{view_of}

module _ {A : Type 0} where
  -- what a seat knows
  abbrev pub known : Seat A → View A
  known s = s.inner.me.0

  -- what a ticket names, which is one opening of its cell
  abbrev pub named : Ticket A → List Opening
  named t = (at t.cell (view_of t.badge.views)).tickets

  -- how many callers there are
  abbrev pub callers_of : Cells A → ℕ
  callers_of cells = length cells.table.shared.key.items

  -- the seat is of these cells
  abbrev pub IsSeatOf : Cells A → Seat A → Type 0
  IsSeatOf cells s = s.inner.table_id ≡ cells.table.shared.table_id

  -- the ticket is
  abbrev pub IsTicketOf : Cells A → Ticket A → Type 0
  IsTicketOf cells t = t.badge.table_id ≡ cells.table.shared.table_id

  -- the seat is of these cells still, and owns as many from the same one on
  abbrev pub SameSeat : Cells A → Seat A → Seat A → Type 0
  SameSeat cells s s' = IsSeatOf cells s' × (s'.first ≡ s.first) × (s'.count ≡ s.count)

  -- the view of a seat that has done nothing and owns so many cells from the first on: of a cell it knows at most that it owns it and that no
  -- ticket of it is unspent, as it does of its own
  pub record IsNew (first count : ℕ) (v : View A) : Type 0 where
    pub deeds : v.deeds ≡ []
    pub parts : (k : ℕ) → at k v ≡ record blank { owners = (at k v).owners; settled = (at k v).settled }
    pub own : (k : ℕ) → first ≤ k → k < first + count → (at k v).settled ≡ 1
