use Rattle.xa_server.proofs.Telling.{backed}
use Rattle.xa_server.proofs.laws.closings_are_backed.Goals as goal

pub returns : goal.returns
returns c = backed
