use Rattle.std.proofs.Common.{◌≡◌, ◌+◌, ℕ, List, length}
use Rattle.xa_cell.specs.Places.{Stand}
use Rattle.xa_cell.specs.Calls.{after_looks, NoneFree}
use Rattle.xa_cell.specs.Tokens.{IsCaller}
use Rattle.xa_cell.proofs.cells.Cells.find.Given as goal

-- the cells so far were looked at, and none was FREE
abbrev pub invariant-loop-cell : goal.invariant-loop-cell
invariant-loop-cell g l = record {
  table : l.seat.table_id ≡ l.fn.seat.table_id;
  held : l.seat.me.1 ≡ l.fn.seat.me.1;
  caller : IsCaller l.first l.count l.fn.seat.table_id.words l.seat.me.0;
  stand : Stand l.fn.seat.me.0 l.seat.me.0;
  looks : (us : List ℕ) × (l.first + length us ≡ l.cell) × NoneFree l.first us l.fn.seat.me.0 × (l.seat.me.0 ≡ after_looks l.first us l.fn.seat.me.0);
}
