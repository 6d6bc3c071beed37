use Rattle.std.proofs.Common.{◌≡◌, drop}
use Rattle.xa_board.specs.Digests.{digest_from, digest_of}
use Rattle.xa_board.proofs.rows.digest_of.Given as goal

abbrev pub invariant-loop-octet : goal.invariant-loop-octet
invariant-loop-octet l = digest_from l.digest (drop l.octet-index l.octet-items) ≡ digest_of l.name
