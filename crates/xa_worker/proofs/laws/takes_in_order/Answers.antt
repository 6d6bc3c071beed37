use Rattle.xa_worker.proofs.Joined.{takes_in_order}
use Rattle.xa_worker.proofs.laws.takes_in_order.Goals as goal

pub returns : goal.returns
returns c = λ setup clients workers kept noted names homes events crew met next are merged. takes_in_order setup clients workers kept noted crew names homes events are merged met next
