use Rattle.std.proofs.Common.{◌≡◌, ◌<◌, ◌+◌, ℕ, true}
use Rattle.xa_events.specs.Queue.{is_closed}
use Rattle.xa_machine.proofs.machine.Machine.all_closed.Given as goal

abbrev pub invariant-loop-queue : goal.invariant-loop-queue
invariant-loop-queue l = (n : ℕ) → 0 < n → n < l.queue + 1 → is_closed n l.self.past ≡ true
