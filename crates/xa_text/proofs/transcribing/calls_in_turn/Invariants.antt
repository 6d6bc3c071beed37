use Rattle.std.proofs.Common.{ℕ, ◌<◌, reverse}
use Rattle.xa_text.specs.InTurn.{CallsInTurn}
use Rattle.xa_text.proofs.transcribing.calls_in_turn.Given as goal

abbrev pub invariant-loop-client : goal.invariant-loop-client
invariant-loop-client l = (k : ℕ) → 0 < k → k < l.client → CallsInTurn k (reverse l.history)
