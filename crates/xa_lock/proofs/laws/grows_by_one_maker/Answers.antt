use Rattle.xa_lock.proofs.Growth.{made_grows}
use Rattle.xa_lock.proofs.laws.grows_by_one_maker.Goals as goal

pub returns : goal.returns
returns c = made_grows
