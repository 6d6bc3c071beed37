-- The octets of the frames so far were added.
use Rattle.std.proofs.Common.{◌≡◌, ◌++◌, take}
use Rattle.xa_frame.specs.Spelling.{all_spelled}
use Rattle.xa_child.proofs.serving.spell.Given as goal

abbrev pub invariant-loop-frame : goal.invariant-loop-frame
invariant-loop-frame l = l.due.items ≡ l.initial.due.items ++ all_spelled (take l.frame-index l.frames)
