use Rattle.std.proofs.Common.{◌≡◌}
use Rattle.xa_trials_objects.proofs.held_board.are_told.Given as goal

abbrev pub invariant-loop-step : goal.invariant-loop-step
invariant-loop-step l = l.board.setup ≡ l.setup
