use Rattle.std.proofs.Common.{◌≡◌, drop}
use Rattle.xa_board.specs.Changes.{rows_on}
use Rattle.xa_board.proofs.rows.first_on.Given as goal

abbrev pub invariant-loop-row : goal.invariant-loop-row
invariant-loop-row l = rows_on l.queue.0 l.rows ≡ rows_on l.queue.0 (drop l.row-index l.rows)
