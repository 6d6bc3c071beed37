use Rattle.xa_history.proofs.Callers.{made_own}
use Rattle.xa_history.proofs.laws.caller_made_its_own.Goals as goal

pub returns : goal.returns
returns c = made_own
