use Rattle.std.proofs.Common.{◌≡◌, take, reverse}
use Rattle.xa_machine.specs.Here.{mode_at}
use Rattle.xa_machine.proofs.sending.mode_of.Given as goal

abbrev pub invariant-loop-i : goal.invariant-loop-i
invariant-loop-i l = mode_at l.request (reverse l.events) ≡ mode_at l.request (reverse (take l.i l.events))
