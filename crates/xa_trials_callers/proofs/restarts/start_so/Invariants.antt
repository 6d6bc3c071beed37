use Rattle.xa_restart.specs.Rule.{IsLast}
use Rattle.xa_trials_callers.proofs.restarts.start_so.Given as goal

abbrev pub invariant-loop-tick : goal.invariant-loop-tick
invariant-loop-tick l = IsLast l.last l.lives.starts
