use Rattle.xa_held.proofs.Lefts.{kept_gone, gone_front}
use Rattle.xa_held.proofs.laws.all_are_gone.Goals as goal

pub returns-clause-kept : goal.returns-clause-kept
returns-clause-kept g c = λ setup k sound none has. kept_gone setup k sound none has

pub returns-clause-seen : goal.returns-clause-seen
returns-clause-seen g c = λ setup queue seen stamp p now left begins less. gone_front setup queue seen stamp p now left begins less
