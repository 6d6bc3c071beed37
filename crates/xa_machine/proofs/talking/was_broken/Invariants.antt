use Rattle.std.proofs.Common.{◌≡◌, take, reverse}
use Rattle.xa_events.specs.Words.{has}
use Rattle.xa_events.specs.Conversation.{broken}
use Rattle.xa_machine.proofs.talking.was_broken.Given as goal

abbrev pub invariant-loop-event : goal.invariant-loop-event
invariant-loop-event l = l.found ≡ has l.request (broken l.caller (reverse (take l.event-index l.events)))
