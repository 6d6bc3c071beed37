use Rattle.xa_worker.proofs.Joined.{caller_made_calls}
use Rattle.xa_worker.proofs.laws.caller_made_calls.Goals as goal

pub returns : goal.returns
returns c = λ setup clients workers kept noted names homes events crew met are merged. caller_made_calls setup clients workers kept noted crew names homes events are merged met
