use Rattle.xa_held.proofs.Front.{knows_events}
use Rattle.xa_held.proofs.laws.knows_the_events.Goals as goal

pub returns : goal.returns
returns g c = λ p k knows. knows_events p k knows
