-- Typed data: its kind, when it is sound, and which kinds a service accepts (XATMI, typed buffers, X_OCTET and X_C_TYPE; the limit of 65,536
-- octets, the sizes of fields, without padding, and the word sound are this project's own).
use Rattle.std.specs.Prelude.{ℕ, suc, zero, ◌/◌, ◌%◌, ◌^◌, ◌==◌, nat_le, Bool, true, false, List, length, Option, Some, None}
use Rattle.std.specs.List.{sum_by}
use Rattle.xa_types.specs.declared.data.Kind.{Kind}
use Rattle.xa_types.specs.declared.data.Kind.TheVariants.{Octet as OctetKind, Struct as StructKind}
use Rattle.xa_types.specs.declared.data.Data.{Data}
use Rattle.xa_types.specs.declared.data.Data.TheVariants.{Absent, Octet, Struct}
use Rattle.xa_types.specs.declared.row.Accepts.{Accepts}
use Rattle.xa_types.specs.declared.setup.Setup.{Setup}
use Rattle.xa_types.specs.declared.setup.ShapeSetup.{ShapeSetup}
use Rattle.xa_types.specs.declared.setup.FieldSetup.{FieldSetup}
use Rattle.xa_types.specs.declared.setup.FieldKind.{FieldKind}
use Rattle.xa_types.specs.declared.setup.FieldKind.TheVariants.{Short, Int, Long, Char, Text}
use Rattle.xa_types.specs.Setup.{number_of, numbered}
use Rattle.std.specs.Str.{bytes_eq}

-- absent data has no kind
abbrev pub kind_of : Data → Option Kind
kind_of Absent = None
kind_of (Octet octets) = Some OctetKind
kind_of (Struct subtype octets) = Some (StructKind subtype)

-- how many octets a field has
abbrev pub field_size : FieldKind → ℕ
field_size Short = 2
field_size Int = 4
field_size Long = 8
field_size Char = 1
field_size (Text n) = n

-- the shape of that subtype, by its number from 1; 0 where none is configured
abbrev pub shape_named : Setup → List ℕ → ℕ
shape_named setup subtype = number_of (λ (shape : ShapeSetup). bytes_eq shape.name subtype) setup.shapes

-- whether the shape is there and has that size: the fields of a shape lie one after another
abbrev pub has_size : Option ShapeSetup → ℕ → Bool
has_size None n = false
has_size (Some shape) n = sum_by (λ (field : FieldSetup). field_size field.kind) shape.fields == n

-- absent data is sound, X_OCTET with at most 65,536 octets, and X_C_TYPE with the size of its configured shape
abbrev pub is_sound : Setup → Data → Bool
is_sound setup Absent = true
is_sound setup (Octet octets) = nat_le (length octets) 65536
is_sound setup (Struct subtype octets) = has_size (numbered (shape_named setup subtype) setup.shapes) (length octets)

-- whether the bit with that number, from 1, is set
abbrev pub has_bit : ℕ → ℕ → Bool
has_bit bits zero = false
has_bit bits (suc n) = (bits / 2 ^ n) % 2 == 1

-- whether a service that accepts these kinds takes data of that kind (TPEITYPE where it doesn't); absent data always
abbrev pub is_accepted : Setup → Accepts → Option Kind → Bool
is_accepted setup accepts None = true
is_accepted setup accepts (Some OctetKind) = accepts.octet
is_accepted setup accepts (Some (StructKind subtype)) = has_bit accepts.structs (shape_named setup subtype)
