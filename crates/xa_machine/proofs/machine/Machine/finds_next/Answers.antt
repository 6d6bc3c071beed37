use Rattle.xa_machine.proofs.Talks.{found_sent, found_closed}
use Rattle.xa_machine.proofs.machine.Machine.finds_next.Goals as goal

pub returns-in-Message : goal.returns-in-Message
returns-in-Message c = rw c.in-Message.is
    (found_sent _ _ _ _ _ _ _ _ _ _ c.other_end-other.ensures.side c.other_end-other.ensures.same c.other_end-other.ensures.sent c.was_sent.ensures)

pub returns-in-Ending : goal.returns-in-Ending
returns-in-Ending c = rw c.in-Ending.is
    (found_closed _ _ _ _ _ _ _ _ _ _ c.other_end-other.ensures.side c.other_end-other.ensures.same c.other_end-other.ensures.sent (rw c.in-Ending.is at c.was_closed.ensures))
