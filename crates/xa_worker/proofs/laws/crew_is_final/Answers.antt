use Rattle.xa_worker.proofs.Over.{crew_is_final}
use Rattle.xa_worker.proofs.laws.crew_is_final.Goals as goal

pub returns : goal.returns
returns c = λ setup clients workers kept noted names homes events crew met are merged wide over. crew_is_final setup clients workers kept noted crew names homes events are merged wide met over
