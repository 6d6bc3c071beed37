-- What a buffer holds, and what its calls make of it (XATMI, tpalloc, tprealloc and tptypes; the rest is this project's own).
use Rattle.std.specs.Prelude.{⊤, ℕ, ◌-◌, ◌≤◌, ◌==◌, ◌||◌, nat_le, List, ◌++◌, length, take, replicate, Option, Some, None, Result, Ok, Err, if◌then◌else◌}
use Rattle.std.specs.List.{find}
use Rattle.std.specs.Str.{bytes_eq}
use Rattle.xa_types.specs.declared.data.Kind.{Kind}
use Rattle.xa_types.specs.declared.data.Kind.TheVariants.{Octet as OctetKind, Struct as StructKind}
use Rattle.xa_types.specs.declared.data.Data.{Data}
use Rattle.xa_types.specs.declared.data.Data.TheVariants.{Absent, Octet as OctetData, Struct as StructData}
use Rattle.xa_types.specs.declared.setup.ShapeSetup.{ShapeSetup}
use Rattle.xa_buffer.specs.declared.buffer.Content.{Content}
use Rattle.xa_buffer.specs.declared.buffer.Content.TheVariants.{Octet, Struct}
use Rattle.xa_buffer.specs.declared.refusal.BufferRefused.{BufferRefused}
use Rattle.xa_buffer.specs.declared.refusal.BufferRefused.TheVariants.{NoEntry, BadSize, WrongKind, TooLong, WrongLength}
use Rattle.xa_buffer.specs.declared.value.FieldValue.{FieldValue}
use Rattle.xa_buffer.specs.Layout.{joined, pieces, zeroed, value_named, with_value, then_as, size_of_fields}

-- the configured shape of that subtype
abbrev pub shape_of : List ShapeSetup → List ℕ → Option ShapeSetup
shape_of shapes subtype = find (λ (shape : ShapeSetup). bytes_eq shape.name subtype) shapes

-- all that a buffer holds
abbrev pub octets_of : Content → List ℕ
octets_of (Octet octets) = octets
octets_of (Struct subtype parts) = joined parts

-- its kind, and how many octets it has (tptypes)
abbrev pub kind_of : Content → Kind
kind_of (Octet octets) = OctetKind
kind_of (Struct subtype parts) = StructKind subtype

abbrev pub size_of : Content → ℕ
size_of content = length (octets_of content)

-- X_OCTET has at most 65,536 octets; a structure has no more by its shape
abbrev pub IsWithin : Content → Type 0
IsWithin (Octet octets) = length octets ≤ 65536
IsWithin (Struct subtype parts) = ⊤

-- ---- sizes

-- of a subtype with that shape, for whose size 0 stands too
abbrev pub allocated_as : List ℕ → ℕ → Option ShapeSetup → Result Content BufferRefused
allocated_as subtype size None = Err NoEntry
allocated_as subtype size (Some shape) =
    if (size == 0) || (size == size_of_fields shape.fields) then Ok (Struct subtype (zeroed shape.fields)) else Err BadSize

-- a zeroed buffer of that kind and size (tpalloc)
abbrev pub allocated : List ShapeSetup → Kind → ℕ → Result Content BufferRefused
allocated shapes OctetKind size = if nat_le size 65536 then Ok (Octet (replicate size 0)) else Err BadSize
allocated shapes (StructKind subtype) size = allocated_as subtype size (shape_of shapes subtype)

-- the front that both sizes have, and zeros (tprealloc); a structure keeps its size
abbrev pub resized : Content → ℕ → Result Content BufferRefused
resized (Octet octets) size =
    if nat_le size 65536 then Ok (Octet (take size octets ++ replicate (size - length octets) 0)) else Err BadSize
resized (Struct subtype parts) size =
    if (size == 0) || (size == length (joined parts)) then Ok (Struct subtype parts) else Err BadSize

-- ---- octets and fields

-- with these octets in place of all
abbrev pub with_octets : Content → List ℕ → Result Content BufferRefused
with_octets (Octet held) octets = if nat_le (length octets) 65536 then Ok (Octet octets) else Err TooLong
with_octets (Struct subtype parts) octets = Err WrongKind

-- with that value in the field of that name
abbrev pub with_field : Content → List ℕ → FieldValue → Result Content BufferRefused
with_field (Octet octets) name value = Err WrongKind
with_field (Struct subtype parts) name value = then_as (λ new. Struct subtype new) (with_value name value parts)

-- the value of the field of that name
abbrev pub field_of : Content → List ℕ → Result FieldValue BufferRefused
field_of (Octet octets) name = Err WrongKind
field_of (Struct subtype parts) name = value_named name parts

-- ---- data

-- the data that the buffer holds
abbrev pub packed : Content → Data
packed (Octet octets) = OctetData octets
packed (Struct subtype parts) = StructData subtype (joined parts)

-- of a subtype with that shape, whose size the octets have
abbrev pub unpacked_as : List ℕ → List ℕ → Option ShapeSetup → Result Content BufferRefused
unpacked_as subtype octets None = Err NoEntry
unpacked_as subtype octets (Some shape) =
    if length octets == size_of_fields shape.fields then Ok (Struct subtype (pieces shape.fields octets)) else Err WrongLength

-- the buffer that holds the data
abbrev pub unpacked : List ShapeSetup → Data → Result Content BufferRefused
unpacked shapes Absent = Err NoEntry
unpacked shapes (OctetData octets) = if nat_le (length octets) 65536 then Ok (Octet octets) else Err TooLong
unpacked shapes (StructData subtype octets) = unpacked_as subtype octets (shape_of shapes subtype)
