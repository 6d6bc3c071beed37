-- An interrupted call leaves the known bytes as they were.
use Rattle.std.specs.Io.KnownBytes.{Keeps}
use Rattle.xa_link.proofs.stream.read_on.Given as goal

abbrev pub invariant-loop : goal.invariant-loop
invariant-loop g l = Keeps (g.R.Read.remaining l.fn.reader) (g.R.Read.remaining l.reader)
