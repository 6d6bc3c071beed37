use Rattle.xa_server.proofs.Beginning.{new_stands}
use Rattle.xa_server.proofs.laws.new_slots_stand.Goals as goal

pub returns : goal.returns
returns c = new_stands
