use Rattle.xa_worker.proofs.Joined.{replies_are_own}
use Rattle.xa_worker.proofs.laws.replies_are_own.Goals as goal

pub returns : goal.returns
returns c = λ setup clients workers kept noted names homes events crew are merged. replies_are_own setup clients workers kept noted crew names homes events are merged
