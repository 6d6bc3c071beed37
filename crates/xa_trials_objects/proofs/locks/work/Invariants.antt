use Rattle.std.proofs.Common.{◌≡◌}
use Rattle.xa_lock.specs.Known.{known, IsPassOf}
use Rattle.xa_trials_objects.proofs.locks.work.Given as goal

-- the pass in hand
abbrev pub invariant-loop : goal.invariant-loop
invariant-loop g l = record {
  lock : IsPassOf l.lock l.pass;
  maker : (known l.pass).maker ≡ l.maker;
}
