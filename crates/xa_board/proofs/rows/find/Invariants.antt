use Rattle.std.proofs.Common.{◌≡◌, ◌≤◌, ◌++◌, drop, vec_len, vec_capacity}
use Rattle.xa_board.specs.Board.{rows_seen}
use Rattle.xa_board.proofs.rows.find.Given as goal

abbrev pub invariant-loop-place : goal.invariant-loop-place
invariant-loop-place l =
    (vec_len l.found ≤ l.place) × (vec_capacity l.initial.found ≤ vec_capacity l.found)
    × (l.found.items ++ rows_seen l.service l.conversational (drop l.place l.rows) ≡ rows_seen l.service l.conversational l.rows)
