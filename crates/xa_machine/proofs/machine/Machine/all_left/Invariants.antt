use Rattle.std.proofs.Common.{◌≡◌, ◌<◌, ◌+◌, ℕ, true}
use Rattle.xa_events.specs.Caller.{has_left}
use Rattle.xa_machine.proofs.machine.Machine.all_left.Given as goal

abbrev pub invariant-loop-client : goal.invariant-loop-client
invariant-loop-client l = (n : ℕ) → 0 < n → n < l.client + 1 → has_left n l.self.past ≡ true
