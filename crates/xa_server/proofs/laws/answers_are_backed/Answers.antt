use Rattle.xa_server.proofs.Telling.{finish_backed, death_backed}
use Rattle.xa_server.proofs.laws.answers_are_backed.Goals as goal

pub returns-clause-finishes : goal.returns-clause-finishes
returns-clause-finishes c = finish_backed

pub returns-clause-dies : goal.returns-clause-dies
returns-clause-dies c = death_backed
