use Rattle.xa_server.proofs.Standing.{own_ended}
use Rattle.xa_server.proofs.fillings.own_ends_stand.Goals as goal

pub returns : goal.returns
returns c = own_ended
