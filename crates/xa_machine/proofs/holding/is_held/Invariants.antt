use Rattle.std.proofs.Common.{◌≡◌, take, reverse}
use Rattle.xa_machine.specs.Holds.{held}
use Rattle.xa_machine.proofs.holding.is_held.Given as goal

abbrev pub invariant-loop-event : goal.invariant-loop-event
invariant-loop-event l = l.held ≡ held l.queue l.worker l.many (reverse (take l.event-index l.log))
