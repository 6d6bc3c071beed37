use Rattle.xa_pool.specs.Known.{IsPassOf}
use Rattle.xa_trials_low.proofs.pools.are_answered.Given as goal

abbrev pub invariant-loop-call : goal.invariant-loop-call
invariant-loop-call g l = IsPassOf l.pool l.pass
