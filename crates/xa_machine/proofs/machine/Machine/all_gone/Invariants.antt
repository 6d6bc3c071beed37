use Rattle.std.proofs.Common.{◌≡◌, ◌<◌, ◌+◌, ℕ, true}
use Rattle.xa_types.specs.Setup.{queue_of}
use Rattle.xa_events.specs.Server.{is_gone}
use Rattle.xa_machine.proofs.machine.Machine.all_gone.Given as goal

abbrev pub invariant-loop-server : goal.invariant-loop-server
invariant-loop-server l = (n : ℕ) → 0 < n → n < l.server + 1 → queue_of l.self.setup n ≡ l.queue → is_gone n l.self.past ≡ true
