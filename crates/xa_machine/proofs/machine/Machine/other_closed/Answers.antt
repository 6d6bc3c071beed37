use Rattle.xa_machine.proofs.Talks.{found_closed}
use Rattle.xa_machine.proofs.machine.Machine.other_closed.Goals as goal

pub returns : goal.returns
returns c = found_closed _ _ _ _ _ _ _ _ _ _ c.other_end.ensures.side c.other_end.ensures.same c.other_end.ensures.sent c.closed_with.ensures
