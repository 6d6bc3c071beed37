-- What holds of buffers, over all calls.
use Rattle.std.specs.Prelude.{◌≡◌, ◌≤◌, ⊤, List, [], ◌∷◌, length, IsSomeAnd}
use Rattle.xa_types.specs.declared.setup.FieldSetup.{FieldSetup}
use Rattle.xa_types.specs.declared.setup.ShapeSetup.{ShapeSetup}
use Rattle.xa_types.specs.Kind.{field_size}
use Rattle.xa_buffer.specs.declared.buffer.Content.{Content}
use Rattle.xa_buffer.specs.declared.buffer.Content.TheVariants.{Octet, Struct}
use Rattle.xa_buffer.specs.Layout.{Piece}
use Rattle.xa_buffer.specs.Contents.{shape_of}

-- the pieces are of these fields, each with its field's size
abbrev pub IsLaidOut : List FieldSetup → List Piece → Type 0
IsLaidOut [] [] = ⊤
IsLaidOut [] (piece ∷ parts) = ⊥
IsLaidOut (field ∷ fields) [] = ⊥
IsLaidOut (field ∷ fields) (piece ∷ parts) = (piece.field ≡ field) × (length piece.octets ≡ field_size field.kind) × IsLaidOut fields parts

-- what a buffer of these shapes may hold
abbrev pub IsOf : List ShapeSetup → Content → Type 0
IsOf shapes (Octet octets) = length octets ≤ 65536
IsOf shapes (Struct subtype parts) = IsSomeAnd (shape_of shapes subtype) (λ shape. IsLaidOut shape.fields parts)
