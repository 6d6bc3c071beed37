-- The frames so far were taken.
use Rattle.std.proofs.Common.{length}
use Rattle.xa_child.proofs.ServingSteps.{Taken}
use Rattle.xa_child.proofs.serving.Serving.take_all.Given as goal

abbrev pub invariant-loop-due : goal.invariant-loop-due
invariant-loop-due l = Taken l.initial.self l.self l.due.items

abbrev pub decreases-loop-due : goal.decreases-loop-due
decreases-loop-due l = length l.self.reader.rest
