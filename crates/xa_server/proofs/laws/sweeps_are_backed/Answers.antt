use Rattle.xa_server.proofs.Telling.{sweep_backed}
use Rattle.xa_server.proofs.laws.sweeps_are_backed.Goals as goal

pub returns : goal.returns
returns c = sweep_backed
