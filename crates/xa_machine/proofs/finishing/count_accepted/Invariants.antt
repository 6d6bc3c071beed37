use Rattle.std.proofs.Common.{◌≡◌, ◌≤◌, take, reverse}
use Rattle.xa_events.specs.Words.{count}
use Rattle.xa_machine.specs.Runs.{accepts}
use Rattle.xa_machine.proofs.finishing.count_accepted.Given as goal

abbrev pub invariant-loop-event : goal.invariant-loop-event
invariant-loop-event l = record {
  same : l.n ≡ count accepts (reverse (take l.event-index l.events));
  few : l.n ≤ l.event-index;
}
