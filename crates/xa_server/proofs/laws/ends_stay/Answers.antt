use Rattle.xa_server.proofs.Telling.{fillings_stay, closings_stay}
use Rattle.xa_server.proofs.laws.ends_stay.Goals as goal

pub returns-clause-fillings : goal.returns-clause-fillings
returns-clause-fillings c = fillings_stay

pub returns-clause-closings : goal.returns-clause-closings
returns-clause-closings c = closings_stay
