use Rattle.std.proofs.Common.{◌≡◌, [], ◌∷◌}
use Rattle.xa_cell.specs.Known.{known}
use Rattle.xa_cell.specs.Places.{OpenAre}
use Rattle.xa_trials_objects.proofs.cells.wait.Given as goal

abbrev pub invariant-loop-look : goal.invariant-loop-look
invariant-loop-look l = record {
  table : l.seat.inner.table_id ≡ l.cells.table.shared.table_id;
  places : OpenAre ((l.mine.cell, l.fn.request) ∷ []) (known l.seat);
}
