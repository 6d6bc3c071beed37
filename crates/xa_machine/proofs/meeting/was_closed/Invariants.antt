use Rattle.std.proofs.Common.{List, take, reverse}
use Rattle.std.specs.Bool.{Decides}
use Rattle.xa_events.specs.declared.event.Event.{Event}
use Rattle.xa_events.specs.Words.{Was}
use Rattle.xa_events.specs.Cases.{BeganAt}
use Rattle.xa_events.specs.Conversation.{IsClosing}
use Rattle.xa_machine.specs.Ends.{side_at, Tells, TellsBegun}
use Rattle.xa_machine.proofs.meeting.was_closed.Given as goal

abbrev pub invariant-loop-i : goal.invariant-loop-i
invariant-loop-i l = (past : List Event) → TellsBegun l.begun l.sender.request past
    → Decides l.found (Was (IsClosing l.clients (side_at l.sender.service) l.sender.request l.sender.sent (BeganAt l.sender.request past) (Tells l.whole l.item)) (reverse (take l.i l.events)))
