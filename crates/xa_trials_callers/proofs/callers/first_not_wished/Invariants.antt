use Rattle.xa_trials_callers.specs.Callers.{Rests}
use Rattle.xa_trials_callers.proofs.callers.first_not_wished.Given as goal

abbrev pub invariant-loop-wish : goal.invariant-loop-wish
invariant-loop-wish g l = Rests l.setup l.cells l.client.last l.client.caller
