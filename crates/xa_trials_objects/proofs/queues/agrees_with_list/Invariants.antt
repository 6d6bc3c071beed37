use Rattle.xa_trials_objects.specs.Queues.{SameServers}
use Rattle.xa_trials_objects.proofs.queues.agrees_with_list.Given as goal

abbrev pub invariant-loop : goal.invariant-loop
invariant-loop l = SameServers l.initial.queue l.queue
