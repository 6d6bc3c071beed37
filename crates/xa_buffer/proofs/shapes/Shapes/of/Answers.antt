use Rattle.std.proofs.Common.{◌≡◌, ◌≤◌, ◌<◌, ◌∙◌, sym, ap, subst, get_or, length, List}
use Rattle.xa_types.specs.declared.setup.ShapeSetup.{ShapeSetup}
use Rattle.xa_buffer.specs.Layout.{size_of_fields}
use Rattle.xa_buffer.proofs.Sizes.{small_shapes}
use Rattle.xa_buffer.proofs.shapes.Shapes.of.Goals as goal

pub new-requires : goal.new-requires
new-requires c =
    let shape = c.shape-item.result in
    let i = c.loop-shape.shape-index in
    let setup = c.args.setup.now in
    let same = c.slice-configured.ensures in
    let within : i < length setup.shapes = subst (λ (shapes : List ShapeSetup). i < length shapes) same c.loop-shape-test.true in
    let read : shape ≡ get_or setup.shapes i shape = c.shape-item.is ∙ ap (λ (shapes : List ShapeSetup). get_or shapes i shape) same in
    subst (λ (s : ShapeSetup). size_of_fields s.fields ≤ 65536) (sym read) (small_shapes setup i shape c.requires within)
