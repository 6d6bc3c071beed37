use Rattle.xa_cell.proofs.OpenPlaces.{still_open}
use Rattle.xa_trials_callers.proofs.clients.leave.Goals as goal

pub returns : goal.returns
returns g c = (c.fill.ensures.seat.0, still_open c.abandon-work.ensures.shut c.fill.ensures.open)
