use Rattle.std.proofs.Common.{◌≡◌}
use Rattle.xa_trials_objects.specs.Queues.{SameServers}
use Rattle.xa_trials_objects.proofs.queues.keeps_order.Given as goal

abbrev pub invariant-loop-priority : goal.invariant-loop-priority
invariant-loop-priority l = SameServers l.initial.queue l.queue × (l.number ≡ l.priority-index)
