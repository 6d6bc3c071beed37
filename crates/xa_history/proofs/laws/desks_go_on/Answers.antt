use Rattle.xa_history.proofs.Going.{desks_go_on}
use Rattle.xa_history.proofs.laws.desks_go_on.Goals as goal

pub returns : goal.returns
returns c = desks_go_on
