use Rattle.std.proofs.Common.{length}
use Rattle.xa_boot.specs.Locking.{AreFresh}
use Rattle.xa_boot.proofs.locking.Locked.close.Given as goal

abbrev pub invariant-loop-queue : goal.invariant-loop-queue
invariant-loop-queue l = AreFresh (record { queues = l.queues; passes = l.passes })

abbrev pub decreases-loop-queue : goal.decreases-loop-queue
decreases-loop-queue l = length l.queues.items
