use Rattle.xa_worker.proofs.Ending.{own_theirs}
use Rattle.xa_worker.proofs.laws.own_home_is_its_own.Goals as goal

pub returns : goal.returns
returns c = own_theirs
