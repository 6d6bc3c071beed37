use Rattle.xa_history.proofs.Recorded.{worn_noted}
use Rattle.xa_history.proofs.ending.worn_is_noted.Goals as goal

pub returns : goal.returns
returns c = worn_noted
