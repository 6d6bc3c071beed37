use Rattle.std.proofs.Common.{take, reverse}
use Rattle.std.specs.Bool.{Decides}
use Rattle.xa_events.specs.Words.{Was}
use Rattle.xa_events.specs.Conversation.{IsSent}
use Rattle.xa_machine.specs.Ends.{side_at}
use Rattle.xa_machine.proofs.meeting.was_sent.Given as goal

abbrev pub invariant-loop-i : goal.invariant-loop-i
invariant-loop-i l = Decides l.found (Was (IsSent (side_at l.sender.service) l.sender.request l.sender.sent l.payload l.passes) (reverse (take l.i l.events)))
