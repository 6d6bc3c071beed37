use Rattle.std.proofs.Common.{◌≡◌, take, reverse}
use Rattle.xa_events.specs.Request.{priority_at}
use Rattle.xa_machine.proofs.order.priority_at.Given as goal

abbrev pub invariant-loop-i : goal.invariant-loop-i
invariant-loop-i l = priority_at (reverse l.events) l.request ≡ priority_at (reverse (take l.i l.events)) l.request
