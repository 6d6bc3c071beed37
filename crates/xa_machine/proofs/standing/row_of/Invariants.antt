use Rattle.std.proofs.Common.{◌≡◌, drop}
use Rattle.xa_types.specs.Rows.{row_of}
use Rattle.xa_machine.proofs.standing.row_of.Given as goal

abbrev pub invariant-loop-row : goal.invariant-loop-row
invariant-loop-row l = row_of l.service l.queue.0 (drop l.row-index l.rows) ≡ row_of l.service l.queue.0 l.rows
