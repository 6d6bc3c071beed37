use Rattle.xa_held.proofs.Fronts.{knows_changes}
use Rattle.xa_held.proofs.laws.knows_the_changes.Goals as goal

pub returns : goal.returns
returns c = λ p board knows. knows_changes p board knows
