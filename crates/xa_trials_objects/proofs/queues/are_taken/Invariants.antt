use Rattle.xa_trials_objects.specs.Queues.{SameServers}
use Rattle.xa_trials_objects.proofs.queues.are_taken.Given as goal

abbrev pub invariant-loop-number : goal.invariant-loop-number
invariant-loop-number l = SameServers l.initial.queue l.queue
