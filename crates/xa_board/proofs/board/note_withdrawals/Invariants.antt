use Rattle.std.proofs.Common.{◌≡◌, ◌≤◌, ◌+◌, ◌++◌, length, drop}
use Rattle.xa_stamp.specs.Home.{last_stamp}
use Rattle.xa_board.specs.Changes.{rows_on, withdrawals}
use Rattle.xa_board.proofs.board.note_withdrawals.Given as goal

abbrev pub invariant-loop-row : goal.invariant-loop-row
invariant-loop-row l =
    let left = rows_on l.queue.0 (drop l.row-index l.rows) in
    let all = rows_on l.queue.0 l.rows in
    (l.home.first ≡ l.initial.home.first)
    × (last_stamp l.home.first l.home.entries ≤ l.stamp.0)
    × (length left ≤ l.home.room)
    × (l.stamp.0 + length left ≡ l.fn.seen.0 + length all)
    × (l.home.entries ++ withdrawals l.stamp.0 (length l.home.entries) left ≡ l.initial.home.entries ++ withdrawals l.fn.seen.0 (length l.initial.home.entries) all)
