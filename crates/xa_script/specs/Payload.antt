-- How the code reads the data of a call. No public contract rests on these.
use Rattle.std.specs.Prelude.{ℕ, zero, suc, ◌+◌, ◌==◌, Bool, if◌then◌else◌, List, [], ◌∷◌, ◌++◌, length, take, drop, replicate, codes, Option, Some, None, option_map, is_some}
use Rattle.std.specs.List.{position}
use Rattle.std.specs.Str.{bytes_eq}
use Rattle.xa_types.specs.Configured.{is_among}
use Rattle.xa_types.specs.declared.setup.Setup.{Setup}
use Rattle.xa_types.specs.declared.data.Data.{Data}
use Rattle.xa_types.specs.declared.data.Data.TheVariants.{Absent, Octet}
use Rattle.xa_buffer.specs.declared.value.FieldValue.{FieldValue}
use Rattle.xa_buffer.specs.declared.value.FieldValue.TheVariants.{Whole, Text}
use Rattle.xa_script.specs.declared.structures.Field.{Field}
use Rattle.xa_script.specs.Words.{◌>>=◌, skip_spaces, next_word, cut_word, word_at, name_of, is_quoted, quoted_at, number_of, hex_octet, hex_from}
use Rattle.xa_script.specs.Structures.{struct_of}
pub use Rattle.xa_script.specs.Sent.{whole_of, below_of, signed_of, given_names}

abbrev pub text_value : List ℕ → Option FieldValue
text_value text = Some (Text text)

-- a text in quotes, or a number
unfoldable pub value_at : List ℕ → Option (Option FieldValue × List ℕ)
value_at octets = if is_quoted octets then (quoted_at octets >>= λ text. Some (text_value text.0, text.1))
    else (signed_of (cut_word octets).0 >>= λ number. Some (option_map Whole number, (cut_word octets).1))

abbrev pub is_equals : ℕ → Bool
is_equals octet = octet == 61

-- the next word has a `=`, so it is a field
abbrev pub has_field : List ℕ → Bool
has_field octets = is_some (position is_equals (next_word octets).0)

-- FIELD=VALUE, where FIELD is a name
unfoldable pub field_at : List ℕ → Option (Field × List ℕ)
field_at octets = do
  place ← position is_equals (skip_spaces octets)
  name ← name_of (take place (skip_spaces octets))
  value ← value_at (drop (place + 1) (skip_spaces octets))
  Some (record { name = name; value = value.0 }, value.1)

-- one more field, which is not given already
abbrev pub one_more : List Field → Field × List ℕ → Option (List Field × List ℕ)
one_more given found = if is_among (given_names given) found.0.name then None else Some (given ++ found.0 ∷ [], found.1)

-- the fields that follow on those that are given, so many at most
unfoldable pub fields_from : ℕ → List Field → List ℕ → Option (List Field × List ℕ)
fields_from zero given octets = Some (given, octets)
fields_from (suc n) given octets = if has_field octets then (do
  found ← field_at octets
  more ← one_more given found
  fields_from n more.0 more.1) else Some (given, octets)

-- SUBTYPE FIELD=VALUE ..: there are no more fields than octets
unfoldable pub struct_at : Setup → List ℕ → Option (Option Data × List ℕ)
struct_at setup octets = do
  subtype ← word_at octets
  given ← fields_from (length subtype.1) [] subtype.1
  Some (struct_of setup subtype.0 given.0, given.1)

abbrev pub octet_data : List ℕ → Option Data
octet_data octets = Some (Octet octets)

unfoldable pub text_at : List ℕ → Option (Option Data × List ℕ)
text_at octets = do
  text ← quoted_at (skip_spaces octets)
  Some (octet_data text.0, text.1)

unfoldable pub octets_at : List ℕ → Option (Option Data × List ℕ)
octets_at octets = do
  word ← word_at octets
  said ← hex_from [] word.0
  Some (octet_data said, word.1)

-- the octet that a word of two digits says
abbrev pub one_octet : List ℕ → Option ℕ
one_octet (digit ∷ other ∷ []) = hex_octet digit other
one_octet _ = None

-- N HH: N times the octet HH
unfoldable pub fill_at : List ℕ → Option (Option Data × List ℕ)
fill_at octets = do
  count ← word_at octets
  number ← number_of 0 70000 count.0
  word ← word_at count.1
  octet ← one_octet word.0
  Some (octet_data (replicate number octet), word.1)

abbrev pub form_at : Setup → List ℕ × List ℕ → Option (Option Data × List ℕ)
form_at setup form = if bytes_eq form.0 (codes "none") then Some (Some Absent, form.1)
    else (if bytes_eq form.0 (codes "text") then text_at form.1
    else (if bytes_eq form.0 (codes "octet") then octets_at form.1
    else (if bytes_eq form.0 (codes "fill") then fill_at form.1
    else (if bytes_eq form.0 (codes "c") then struct_at setup form.1
    else None))))

unfoldable pub payload_at : Setup → List ℕ → Option (Option Data × List ℕ)
payload_at setup octets = do
  form ← word_at octets
  form_at setup form
