use Rattle.std.proofs.Common.{◌≡◌, ℕ, ◌<◌, ◌≤◌, None, true, false, get_or}
use mathlib.Core.Option.{some}
use lib.ListN.{get_elem?}
use Rattle.xa_cell.specs.Dealing.{cells_in}
use Rattle.xa_cell.proofs.OneCell.{SlotOf}
use Rattle.xa_cell.proofs.cells.Cells.close.Given as goal

-- the slots so far are gone, and the others are there and empty
abbrev pub invariant-loop-cell : goal.invariant-loop-cell
invariant-loop-cell g l = record {
  there : (k : ℕ) → l.cell ≤ k → k < l.closed.slots.len → get_or l.closed.slots.filled k false ≡ true;
  gone : (k : ℕ) → k < l.cell → get_or l.closed.slots.filled k false ≡ false;
  count : l.closed.slots.len ≡ cells_in l.fn.self.table.shared.key.items;
  end : l.cell-end ≡ cells_in l.fn.self.table.shared.key.items;
  empty : (k : ℕ) → k < cells_in l.fn.self.table.shared.key.items → get_elem? l.closed.slots.items k ≡ some (let x : SlotOf g.row.A.Denot = None in x);
}
