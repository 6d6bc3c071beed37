use Rattle.std.proofs.Common.{◌≡◌, ◌≤◌, ◌++◌, drop, vec_len, vec_capacity}
use Rattle.xa_board.specs.Digests.{digests_of}
use Rattle.xa_board.proofs.rows.digest_all.Given as goal

abbrev pub invariant-loop-row : goal.invariant-loop-row
invariant-loop-row l =
    (vec_len l.digests ≤ l.row-index) × (vec_capacity l.initial.digests ≤ vec_capacity l.digests)
    × (l.digests.items ++ digests_of (drop l.row-index l.rows) ≡ digests_of l.rows)
