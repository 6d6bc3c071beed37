use Rattle.xa_trials_callers.specs.Callers.{Rests}
use Rattle.xa_trials_callers.proofs.callers.tell.Given as goal

abbrev pub invariant-loop-row : goal.invariant-loop-row
invariant-loop-row g l = Rests l.setup l.cells l.client.last l.client.caller
