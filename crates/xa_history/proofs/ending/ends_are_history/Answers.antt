use Rattle.xa_history.proofs.History.{ends_history}
use Rattle.xa_history.proofs.ending.ends_are_history.Goals as goal

pub returns : goal.returns
returns c = ends_history
