use Rattle.xa_server.proofs.Onward.{still_on_way}
use Rattle.xa_server.proofs.laws.still_on_way.Goals as goal

pub returns : goal.returns
returns c = still_on_way
