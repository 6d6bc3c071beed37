use Rattle.xa_worker.proofs.Dense.{crew_is_dense}
use Rattle.xa_worker.proofs.laws.crew_is_dense.Goals as goal

pub returns : goal.returns
returns c = λ setup clients workers kept noted names homes crew are next. crew_is_dense setup clients workers kept noted crew names homes are next
