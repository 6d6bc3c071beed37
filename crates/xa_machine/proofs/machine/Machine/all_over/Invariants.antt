use Rattle.std.proofs.Common.{◌≡◌, ◌⊎◌, ◌<◌, ◌+◌, ℕ, true}
use Rattle.xa_events.specs.Server.{is_gone, was_shut_down}
use Rattle.xa_machine.proofs.machine.Machine.all_over.Given as goal

abbrev pub invariant-loop-server : goal.invariant-loop-server
invariant-loop-server l = (n : ℕ) → 0 < n → n < l.server + 1 → (was_shut_down n l.self.past ≡ true) ⊎ (is_gone n l.self.past ≡ true)
