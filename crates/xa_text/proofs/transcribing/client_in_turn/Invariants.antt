use Rattle.std.proofs.Common.{◌≡◌, reverse, take}
use Rattle.xa_events.specs.Caller.{last_op}
use Rattle.xa_text.specs.InTurn.{CallsInTurn}
use Rattle.xa_text.proofs.transcribing.client_in_turn.Given as goal

abbrev pub invariant-loop-event : goal.invariant-loop-event
invariant-loop-event l = record {
  last : l.last ≡ last_op l.client (reverse (take l.event-index l.history));
  turn : CallsInTurn l.client (reverse (take l.event-index l.history));
}
