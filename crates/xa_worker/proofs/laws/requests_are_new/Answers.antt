use Rattle.xa_worker.proofs.Joined.{requests_are_new}
use Rattle.xa_worker.proofs.laws.requests_are_new.Goals as goal

pub returns : goal.returns
returns c = λ setup clients workers kept noted names homes events crew are merged board clock each. requests_are_new setup clients workers kept noted crew names homes events are merged board clock each
