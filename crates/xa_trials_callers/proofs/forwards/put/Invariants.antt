use Rattle.xa_trials_callers.specs.Forwards.{IsOut}
use Rattle.xa_trials_callers.proofs.forwards.put.Given as goal

abbrev pub invariant-loop-attempt : goal.invariant-loop-attempt
invariant-loop-attempt g l = IsOut l.setup l.cells l.entry l.event l.worker.slot l.worker.caller
