use Rattle.std.proofs.Common.{length}
use Rattle.xa_config.proofs.accepts.+bits_of.Given as goal

abbrev pub decreases-bits_of : goal.decreases-bits_of
decreases-bits_of l = length l.shapes.now
