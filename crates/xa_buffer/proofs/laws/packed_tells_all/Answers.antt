use Rattle.xa_buffer.proofs.Whole.{same_packed}
use Rattle.xa_buffer.proofs.laws.packed_tells_all.Goals as goal

pub returns : goal.returns
returns c = same_packed
