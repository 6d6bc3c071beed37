-- An interrupted call leaves the known bytes as they were.
use Rattle.std.specs.Io.KnownBytes.{Keeps}
use Rattle.xa_link.proofs.stream.write_on.Given as goal

abbrev pub invariant-loop : goal.invariant-loop
invariant-loop g l = Keeps (g.W.Write.contents l.fn.writer) (g.W.Write.contents l.writer)
