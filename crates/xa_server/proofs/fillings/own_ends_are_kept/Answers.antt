use Rattle.xa_server.proofs.Standing.{own_kept, own_taking}
use Rattle.xa_server.proofs.fillings.own_ends_are_kept.Goals as goal

pub returns : goal.returns
returns c = record { keeps = own_kept; takes = own_taking }
