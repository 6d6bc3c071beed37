use Rattle.xa_server.proofs.Joining.{taken_ended}
use Rattle.xa_server.proofs.fillings.taken_have_ends.Goals as goal

pub returns : goal.returns
returns c = taken_ended
