-- Those so far were made.
use Rattle.std.proofs.Common.{◌≡◌, ◌≤◌, length, take}
use Rattle.std.specs.Prelude.{vec_capacity}
use Rattle.xa_buffer.proofs.shapes.Shapes.of.Given as goal

abbrev pub invariant-loop-shape : goal.invariant-loop-shape
invariant-loop-shape l = (l.shapes.items ≡ take l.shape-index l.configured) × (length l.configured ≤ vec_capacity l.shapes)
