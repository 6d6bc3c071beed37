use Rattle.xa_caller.specs.Caller.{AreRowsOf}
use Rattle.xa_trials_callers.proofs.clients.found_of.Given as goal

abbrev pub invariant-loop-queue : goal.invariant-loop-queue
invariant-loop-queue l = AreRowsOf l.setup l.service l.rows.items
