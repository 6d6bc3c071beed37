use Rattle.std.proofs.Common.{◌≡◌, ◌+◌, take, reverse}
use Rattle.xa_events.specs.Words.{has}
use Rattle.xa_events.specs.Conversation.{broken, end_done}
use Rattle.xa_machine.specs.Ends.{side_at, counted, IsFew}
use Rattle.xa_machine.proofs.talking.done_of.Given as goal

abbrev pub invariant-loop-event : goal.invariant-loop-event
invariant-loop-event l = record {
  same : counted l.done ≡ end_done l.end.caller (side_at l.end.service) l.end.request (reverse (take l.event-index l.events));
  broke : l.broke ≡ has l.end.request (broken l.end.caller (reverse (take l.event-index l.events)));
  few : IsFew l.done (l.event-index + 1);
}
