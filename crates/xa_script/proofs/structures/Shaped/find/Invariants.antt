use Rattle.std.proofs.Common.{◌≡◌, drop}
use Rattle.xa_buffer.specs.Contents.{shape_of}
use Rattle.xa_script.proofs.structures.Shaped.find.Given as goal

abbrev pub invariant-loop-shape : goal.invariant-loop-shape
invariant-loop-shape l = shape_of (drop l.shape-index l.self.shapes) l.name ≡ shape_of l.self.shapes l.name
