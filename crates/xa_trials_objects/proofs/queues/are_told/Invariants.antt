use Rattle.xa_trials_objects.specs.Queues.{SameServers}
use Rattle.xa_trials_objects.proofs.queues.are_told.Given as goal

abbrev pub invariant-loop-ask : goal.invariant-loop-ask
invariant-loop-ask l = SameServers l.initial.queue l.queue
