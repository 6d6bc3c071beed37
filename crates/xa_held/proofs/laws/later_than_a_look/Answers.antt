use Rattle.xa_held.proofs.Climbing.{behind-look}
use Rattle.xa_held.proofs.laws.later_than_a_look.Goals as goal

pub returns : goal.returns
returns c = λ least front rest look climbs. behind-look least front rest look climbs
