use Rattle.std.proofs.Common.{◌≡◌, take, reverse}
use Rattle.xa_events.specs.Conversation.{is_begun}
use Rattle.xa_machine.specs.Ends.{side_at}
use Rattle.xa_machine.proofs.talking.is_begun.Given as goal

abbrev pub invariant-loop-event : goal.invariant-loop-event
invariant-loop-event l = l.found ≡ is_begun (side_at l.service) l.request (reverse (take l.event-index l.events))
