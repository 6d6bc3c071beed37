use Rattle.xa_worker.proofs.Joined.{server_finished}
use Rattle.xa_worker.proofs.laws.server_finished.Goals as goal

pub returns : goal.returns
returns c = λ setup clients workers kept noted names homes events crew met are merged. server_finished setup clients workers kept noted crew names homes events are merged met
