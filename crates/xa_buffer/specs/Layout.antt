-- How the fields of X_C_TYPE lie in octets: one after another in declared order, without padding between them. Numbers are big-endian in two's
-- complement, and zero octets follow a text to the end of its field (this project's own).
use Rattle.std.specs.Prelude.{ℕ, ◌-◌, ◌*◌, ◌^◌, ◌==◌, nat_le, nat_lt, Bool, false, ℤ, pos, negsuc, List, [], ◌∷◌, ◌++◌, length, map, take, drop, replicate, Option, Some, None, Result, Ok, Err, if◌then◌else◌}
use Rattle.std.specs.Int.{w64}
use Rattle.std.specs.List.{find, flat_map, list_any, sum_by, before_first}
use Rattle.std.specs.Str.{bytes_eq}
use Rattle.byteorder.specs.Endian.{big_bytes, big_number, low_bytes, twos_complement}
use Rattle.xa_types.specs.declared.setup.FieldSetup.{FieldSetup}
use Rattle.xa_types.specs.declared.setup.FieldKind.{FieldKind}
use Rattle.xa_types.specs.declared.setup.FieldKind.TheVariants.{Short, Int, Long, Char, Text as TextKind}
use Rattle.xa_types.specs.Kind.{field_size}
use Rattle.xa_buffer.specs.declared.refusal.BufferRefused.{BufferRefused}
use Rattle.xa_buffer.specs.declared.refusal.BufferRefused.TheVariants.{NoField, WrongKind, TooLong}
use Rattle.xa_buffer.specs.declared.value.FieldValue.{FieldValue}
use Rattle.xa_buffer.specs.declared.value.FieldValue.TheVariants.{Whole, Text}

-- ---- one field

-- whether the number is one of two's complement in n octets
abbrev pub is_signed : ℕ → ℤ → Bool
is_signed n (pos m) = nat_lt m (2 ^ (8 * n - 1))
is_signed n (negsuc m) = nat_lt m (2 ^ (8 * n - 1))

-- whether a field of that kind has room for the number; a char is from 0 to 255
abbrev pub holds : FieldKind → ℤ → Bool
holds Short z = is_signed 2 z
holds Int z = is_signed 4 z
holds Long z = is_signed 8 z
holds Char (pos n) = nat_lt n 256
holds Char (negsuc n) = false
holds (TextKind n) z = false

-- the octets of a text in a field of n octets; a text has no zero octet
abbrev pub text_octets : ℕ → List ℕ → Result (List ℕ) BufferRefused
text_octets n text =
    if list_any (λ octet. octet == 0) text then Err WrongKind
    else (if nat_le (length text) n then Ok (text ++ replicate (n - length text) 0) else Err TooLong)

-- the octets of a number in a field of that kind
abbrev pub number_octets : FieldKind → ℤ → Result (List ℕ) BufferRefused
number_octets kind z = if holds kind z then Ok (big_bytes (field_size kind) (low_bytes w64 (field_size kind) z)) else Err TooLong

-- the octets of a value in a field of that kind, or why it has none there
abbrev pub encoded : FieldKind → FieldValue → Result (List ℕ) BufferRefused
encoded (TextKind n) (Text text) = text_octets n text
encoded (TextKind n) (Whole z) = Err WrongKind
encoded kind (Text text) = Err WrongKind
encoded kind (Whole z) = number_octets kind z

-- the value that these octets of a field of that kind are; a text ends before its first zero octet
abbrev pub decoded : FieldKind → List ℕ → FieldValue
decoded (TextKind n) octets = Text (before_first (λ octet. octet == 0) octets)
decoded Char octets = Whole (pos (big_number 1 octets))
decoded kind octets = Whole (twos_complement (field_size kind) (big_number (field_size kind) octets))

-- ---- the fields of a shape

-- a field, and the octets that lie in it
pub record Piece : Type 0 where
  pub field : FieldSetup
  pub octets : List ℕ

-- how many octets the fields have together
abbrev pub size_of_fields : List FieldSetup → ℕ
size_of_fields fields = sum_by (λ (field : FieldSetup). field_size field.kind) fields

-- the octets of a structure: those of its fields, one after another
abbrev pub joined : List Piece → List ℕ
joined parts = flat_map (λ (piece : Piece). piece.octets) parts

-- the pieces into which octets fall by these fields
abbrev pub pieces : List FieldSetup → List ℕ → List Piece
pieces [] octets = []
pieces (field ∷ fields) octets =
    record { field = field; octets = take (field_size field.kind) octets } ∷ pieces fields (drop (field_size field.kind) octets)

-- the fields with nothing but zeros
abbrev pub zeroed : List FieldSetup → List Piece
zeroed fields = map (λ (field : FieldSetup). record { field = field; octets = replicate (field_size field.kind) 0 }) fields

-- the value in a piece, if it is there
abbrev pub value_in : Option Piece → Result FieldValue BufferRefused
value_in None = Err NoField
value_in (Some piece) = Ok (decoded piece.field.kind piece.octets)

-- the value of the field of that name
abbrev pub value_named : List ℕ → List Piece → Result FieldValue BufferRefused
value_named name parts = value_in (find (λ (piece : Piece). bytes_eq piece.field.name name) parts)

-- what is made of a good answer; a refusal stays one
abbrev pub then_as : {X Y : Type 0} → (X → Y) → Result X BufferRefused → Result Y BufferRefused
then_as f (Ok x) = Ok (f x)
then_as f (Err why) = Err why

-- the pieces where the field of that name has that value, and all others are as they were
abbrev pub with_value : List ℕ → FieldValue → List Piece → Result (List Piece) BufferRefused
with_value name value [] = Err NoField
with_value name value (piece ∷ parts) =
    if bytes_eq piece.field.name name then then_as (λ octets. record piece { octets = octets } ∷ parts) (encoded piece.field.kind value)
    else then_as (λ rest. piece ∷ rest) (with_value name value parts)
