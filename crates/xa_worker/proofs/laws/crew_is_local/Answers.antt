use Rattle.xa_worker.proofs.Joined.{crew_is_local}
use Rattle.xa_worker.proofs.laws.crew_is_local.Goals as goal

pub returns : goal.returns
returns c = λ setup clients workers kept noted names homes events crew met are merged. crew_is_local setup clients workers kept noted crew names homes events are merged met
