use Rattle.xa_history.proofs.Crew.{desks_are_crew}
use Rattle.xa_history.proofs.laws.desks_are_crew.Goals as goal

pub returns : goal.returns
returns c = desks_are_crew
