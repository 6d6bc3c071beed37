use Rattle.xa_worker.proofs.Crewed.{joined_are_crew}
use Rattle.xa_worker.proofs.laws.joined_are_crew.Goals as goal

pub returns : goal.returns
returns c = joined_are_crew
