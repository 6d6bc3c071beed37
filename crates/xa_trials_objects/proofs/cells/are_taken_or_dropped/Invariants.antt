use Rattle.std.proofs.Common.{◌≡◌, []}
use Rattle.xa_cell.specs.Known.{known}
use Rattle.xa_cell.specs.Places.{OpenAre}
use Rattle.xa_trials_objects.proofs.cells.are_taken_or_dropped.Given as goal

abbrev pub invariant-loop-number : goal.invariant-loop-number
invariant-loop-number g l = record {
  owner : l.owner.inner.table_id ≡ l.cells.table.shared.table_id;
  filler : l.filler.inner.table_id ≡ l.cells.table.shared.table_id;
  owner_shut : OpenAre [] (known l.owner);
  filler_shut : OpenAre [] (known l.filler);
}
