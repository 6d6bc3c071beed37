use Rattle.std.proofs.Common.{◌≡◌, drop}
use Rattle.xa_buffer.specs.Contents.{shape_of}
use Rattle.xa_buffer.proofs.shapes.Shapes.find.Given as goal

abbrev pub invariant-loop-shape : goal.invariant-loop-shape
invariant-loop-shape l = shape_of (drop l.shape-index l.shape-items) l.subtype ≡ shape_of l.self l.subtype
