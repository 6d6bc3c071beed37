use Rattle.std.proofs.Common.{length}
use Rattle.xa_domain.specs.Locks.{IsSilent}
use Rattle.xa_domain.proofs.Queues.{ClosesSome}
use Rattle.xa_domain.proofs.homes.close_queues.Given as goal

abbrev pub invariant-loop-queue : goal.invariant-loop-queue
invariant-loop-queue l = record {
  silent : IsSilent l.cells l.seat;
  closes : ClosesSome l.fn.queues.items l.fn.passes.items l.initial.homes l.rest.rest.items l.back.rest.items l.homes;
}

abbrev pub decreases-loop-queue : goal.decreases-loop-queue
decreases-loop-queue l = length l.rest.rest.items
