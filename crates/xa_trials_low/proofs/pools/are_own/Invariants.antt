use Rattle.xa_pool.specs.Known.{IsPassOf}
use Rattle.xa_trials_low.proofs.pools.are_own.Given as goal

abbrev pub invariant-loop : goal.invariant-loop
invariant-loop g l = IsPassOf l.pool l.pass
