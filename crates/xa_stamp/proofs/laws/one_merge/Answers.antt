use Rattle.xa_stamp.proofs.Places.{one_merge}
use Rattle.xa_stamp.proofs.laws.one_merge.Goals as goal

pub returns : goal.returns
returns c = one_merge
