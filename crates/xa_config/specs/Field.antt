-- The text of a field of a shape: `NAME KIND`, with one space between (this project's own, after X_C_TYPE of XATMI).
use Rattle.std.specs.Prelude.{ℕ, ◌+◌, ◌-◌, ◌*◌, ◌==◌, ◌&&◌, Bool, if◌then◌else◌, List, take, drop, fold, codes, decimal, Option, Some, None, is_some, unwrap_or}
use Rattle.std.specs.List.{before_first, after_first}
use Rattle.std.specs.Str.{bytes_eq}
use Rattle.xa_types.specs.Configured.{is_within}
use Rattle.xa_types.specs.Name.{is_identifier}
use Rattle.xa_types.specs.declared.setup.FieldSetup.{FieldSetup}
use Rattle.xa_types.specs.declared.setup.FieldKind.{FieldKind}
use Rattle.xa_types.specs.declared.setup.FieldKind.TheVariants.{Short, Int, Long, Char, Text}

abbrev pub is_space : ℕ → Bool
is_space octet = octet == 32

-- what stands before the first space, and what behind it
abbrev pub name_part : List ℕ → List ℕ
name_part text = before_first is_space text

abbrev pub kind_part : List ℕ → List ℕ
kind_part text = after_first is_space text

-- the number that these digits write
abbrev pub number_of_digits : List ℕ → ℕ
number_of_digits digits = fold (λ n digit. 10 * n + (digit - 48)) 0 digits

-- a length from 1 to 1,024, as it is written in decimal: so without a leading zero
unfoldable pub sized : List ℕ → Option FieldKind
sized digits = let n = number_of_digits digits in if bytes_eq digits (decimal n) && is_within 1 1024 n then Some (Text n) else None

-- `short`, `int`, `long`, `char`, or `string N`
unfoldable pub kind_of : List ℕ → Option FieldKind
kind_of kind =
    if bytes_eq kind (codes "short") then Some Short
    else (if bytes_eq kind (codes "int") then Some Int
    else (if bytes_eq kind (codes "long") then Some Long
    else (if bytes_eq kind (codes "char") then Some Char
    else (if bytes_eq (take 7 kind) (codes "string ") then sized (drop 7 kind) else None))))

abbrev pub is_field : List ℕ → Bool
is_field text = is_identifier (name_part text) && is_some (kind_of (kind_part text))

-- the field that a text of that form says
abbrev pub field_of : List ℕ → FieldSetup
field_of text = record { name = name_part text; kind = unwrap_or (kind_of (kind_part text)) Char }
