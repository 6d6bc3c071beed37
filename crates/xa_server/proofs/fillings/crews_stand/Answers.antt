use Rattle.xa_server.proofs.Standing.{crew_stands}
use Rattle.xa_server.proofs.fillings.crews_stand.Goals as goal

pub returns : goal.returns
returns c = crew_stands
