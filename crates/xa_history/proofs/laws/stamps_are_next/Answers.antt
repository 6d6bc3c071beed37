use Rattle.xa_history.proofs.Stamps.{stamps_next}
use Rattle.xa_history.proofs.laws.stamps_are_next.Goals as goal

pub returns : goal.returns
returns c = stamps_next
