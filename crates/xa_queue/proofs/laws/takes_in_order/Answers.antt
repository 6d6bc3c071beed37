use Rattle.xa_queue.proofs.InOrder.{next-chosen}
use Rattle.xa_queue.proofs.laws.takes_in_order.Goals as goal

pub returns : goal.returns
returns g c = next-chosen
