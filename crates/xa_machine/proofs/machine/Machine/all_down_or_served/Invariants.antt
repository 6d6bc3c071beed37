use Rattle.std.proofs.Common.{◌≡◌, ◌<◌, ◌+◌, ℕ, true}
use Rattle.xa_events.specs.Queue.{is_down}
use Rattle.xa_events.specs.Server.{AllGone}
use Rattle.xa_machine.proofs.machine.Machine.all_down_or_served.Given as goal

abbrev pub invariant-loop-queue : goal.invariant-loop-queue
invariant-loop-queue l = (n : ℕ) → 0 < n → n < l.queue + 1 → AllGone l.self.setup n l.self.past → is_down n l.self.past ≡ true
