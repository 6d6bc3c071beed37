use Rattle.std.proofs.Common.{length}
use Rattle.xa_trials_objects.proofs.queues.finish.Given as goal

abbrev pub decreases-loop-entry : goal.decreases-loop-entry
decreases-loop-entry l = length l.rest.waiting
