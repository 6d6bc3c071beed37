-- Data of X_C_TYPE: a zeroed buffer of its shape, in which each field that is given is put; how it lies there the buffer says (this project's own).
use Rattle.std.specs.Prelude.{ℕ, if◌then◌else◌, List, [], ◌∷◌, Option, Some, None}
use Rattle.std.specs.Result.{result_ok}
use Rattle.xa_types.specs.Name.{is_name}
use Rattle.xa_types.specs.declared.setup.Setup.{Setup}
use Rattle.xa_types.specs.declared.data.Data.{Data}
use Rattle.xa_types.specs.declared.data.Kind.TheVariants as kinds
use Rattle.xa_buffer.specs.declared.buffer.Content.{Content}
use Rattle.xa_buffer.specs.Contents.{allocated, with_field, packed}
use Rattle.xa_script.specs.declared.structures.Field.{Field}

-- the second of what the first gives, where both give something
infixl 10 ◌>>=◌
abbrev pub ◌>>=◌ : {A B : Type 0} → Option A → (A → Option B) → Option B
(Some x) >>= f = f x
None >>= f = None

abbrev pub name_of : List ℕ → Option (List ℕ)
name_of octets = if is_name octets then Some octets else None

-- with a field that is given, where the shape has it and it takes its value
abbrev pub with_given : Content → Field → Option Content
with_given content field = field.value >>= λ value. result_ok (with_field content field.name value)

-- with all of them
abbrev pub filled : Content → List Field → Option Content
filled content [] = Some content
filled content (field ∷ fields) = with_given content field >>= λ more. filled more fields

-- what is packed then
abbrev pub packed_with : Content → List Field → Option Data
packed_with content given = do
  full ← filled content given
  Some (packed full)

-- data of that subtype, where it is configured and its shape takes what is given
unfoldable pub struct_of : Setup → List ℕ → List Field → Option Data
struct_of setup subtype given = do
  name ← name_of subtype
  content ← result_ok (allocated setup.shapes (kinds.Struct name) 0)
  packed_with content given
