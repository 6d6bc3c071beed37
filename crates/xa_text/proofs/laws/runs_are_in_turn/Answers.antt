use Rattle.xa_text.proofs.InTurn.{run_in_turn}
use Rattle.xa_text.proofs.laws.runs_are_in_turn.Goals as goal

pub returns : goal.returns
returns c = run_in_turn
