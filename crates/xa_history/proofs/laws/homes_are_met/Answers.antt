use Rattle.xa_history.proofs.Homes.{homes_met, takes_next}
use Rattle.xa_history.proofs.laws.homes_are_met.Goals as goal

pub returns : goal.returns
returns c = record { met = homes_met; next = takes_next }
