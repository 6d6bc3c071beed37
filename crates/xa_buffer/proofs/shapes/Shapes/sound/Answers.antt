use Rattle.std.proofs.Common.{◌≡◌, ◌==◌, ◌∙◌, sym, ap, ap₂, length, List, ℕ, Option, Some, None}
use Rattle.xa_types.specs.declared.setup.ShapeSetup.{ShapeSetup}
use Rattle.xa_types.specs.Kind.{has_size, is_sound}
use Rattle.xa_buffer.specs.Contents.{shape_of}
use Rattle.xa_buffer.proofs.Shaped.{sound_struct}
use Rattle.xa_buffer.proofs.shapes.Shapes.sound.Goals as goal

pub returns-in-Some : goal.returns-in-Some
returns-in-Some c setup same =
    let subtype = c.in-Struct.subtype in
    let octets = c.in-Struct.octets in
    let shape = c.in-Some.shape.now in
    let found : shape_of setup.shapes subtype ≡ Some shape = ap (λ (shapes : List ShapeSetup). shape_of shapes subtype) same ∙ sym c.in-Some.ensures in
    ap₂ (λ (size : ℕ) (held : List ℕ). size == length held) c.size.ensures.value c.slice-in-Some.ensures
    ∙ sym (ap (is_sound setup) c.in-Struct.is ∙ (sound_struct setup subtype octets ∙ ap (λ (o : Option ShapeSetup). has_size o (length octets)) found))

pub returns-in-None : goal.returns-in-None
returns-in-None c setup same =
    let subtype = c.in-Struct.subtype in
    let octets = c.in-Struct.octets in
    let found : shape_of setup.shapes subtype ≡ None = ap (λ (shapes : List ShapeSetup). shape_of shapes subtype) same ∙ sym c.in-None.ensures in
    sym (ap (is_sound setup) c.in-Struct.is ∙ (sound_struct setup subtype octets ∙ ap (λ (o : Option ShapeSetup). has_size o (length octets)) found))
