use Rattle.std.proofs.Common.{◌<◌, ◌≤◌, ℕ}
use Rattle.xa_events.specs.Board.{rows_of_version}
use Rattle.xa_events.specs.Cases.{Shows}
use Rattle.xa_machine.proofs.machine.Machine.board_shows.Given as goal

abbrev pub invariant-loop-version : goal.invariant-loop-version
invariant-loop-version l = (k : ℕ) → l.floor ≤ k → k < l.version → Shows l.queue.0 l.evidence (rows_of_version l.self.setup l.self.past k) → ⊥
