use Rattle.std.proofs.Common.{◌≡◌, drop}
use Rattle.xa_script.specs.Structures.{filled}
use Rattle.xa_script.proofs.structures.fill.Given as goal

abbrev pub invariant-loop-field : goal.invariant-loop-field
invariant-loop-field l = filled l.buffer (drop l.field-index l.given) ≡ filled l.fn.buffer l.given
