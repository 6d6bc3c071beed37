use Rattle.std.proofs.Common.{◌≡◌, ◌≤◌, ◌+◌, length, drop}
use Rattle.xa_board.specs.Changes.{rows_on}
use Rattle.xa_board.proofs.rows.count_on.Given as goal

abbrev pub invariant-loop-row : goal.invariant-loop-row
invariant-loop-row l = (l.count ≤ l.row-index) × (l.count + length (rows_on l.queue.0 (drop l.row-index l.rows)) ≡ length (rows_on l.queue.0 l.rows))
