use Rattle.xa_stamp.proofs.Stamps.{Rises-pairs}
use Rattle.xa_stamp.proofs.laws.stamps_differ.Goals as goal

pub returns : goal.returns
returns c = Rises-pairs
