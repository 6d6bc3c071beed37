use Rattle.std.proofs.Common.{take}
use Rattle.xa_events.specs.State.{opening}
use Rattle.xa_events.specs.Run.{Run}
use Rattle.xa_machine.proofs.replaying.replay.Given as goal

abbrev pub invariant-loop-i : goal.invariant-loop-i
invariant-loop-i l = Run (opening l.setup l.fn.clients) (take l.i l.events) l.machine
