-- The data of a call: the parts of DATA, and what they say (this project's own).
use Rattle.std.specs.Prelude.{ℕ, ◌-◌, ◌≡◌, ◌==◌, ◌&&◌, not, nat_lt, nat_le, ℤ, pos, negsuc, Bool, true, if◌then◌else◌, List, [], ◌∷◌, ◌++◌, map, replicate, codes, Option, Some, None, option_map}
use Rattle.std.specs.List.{list_all, AllZip}
use Rattle.xa_types.specs.Name.{is_name}
use Rattle.xa_types.specs.Configured.{are_distinct}
use Rattle.xa_types.specs.declared.setup.Setup.{Setup}
use Rattle.xa_types.specs.declared.data.Data.{Data}
use Rattle.xa_types.specs.declared.data.Data.TheVariants.{Absent, Octet}
use Rattle.xa_buffer.specs.declared.value.FieldValue.{FieldValue}
use Rattle.xa_buffer.specs.declared.value.FieldValue.TheVariants.{Whole, Text}
use Rattle.xa_script.specs.declared.structures.Field.{Field}
use Rattle.xa_script.specs.Parts.{IsWord, quoted, decimal, is_decimal, number_of, AreHex}
use Rattle.xa_script.specs.Structures.{struct_of}

-- the number, if 64 bits hold it with its sign
abbrev pub whole_of : ℕ → Option ℤ
whole_of n = if nat_lt n 9223372036854775808 then Some (pos n) else None

-- that number below 0, which isn't 0
abbrev pub below_of : ℕ → Option ℤ
below_of n = if nat_le n 9223372036854775808 then Some (negsuc (n - 1)) else None

-- a number in decimal, with `-` where it is below 0
unfoldable pub signed_of : List ℕ → Option (Option ℤ)
signed_of [] = None
signed_of (sign ∷ digits) = if sign == 45 then (if is_decimal digits && not (decimal digits == 0) then Some (below_of (decimal digits)) else None)
    else (if is_decimal (sign ∷ digits) then Some (whole_of (decimal (sign ∷ digits))) else None)

-- an octet that stands before `=`
abbrev pub is_other : ℕ → Bool
is_other octet = not (octet == 61)

-- a name without `=`
pub record IsFieldName (name : List ℕ) : Type 0 where
  pub named : is_name name ≡ true
  pub other : list_all is_other name ≡ true

abbrev pub given : List ℕ → Option FieldValue → Field
given name value = record { name = name; value = value }

-- FIELD=VALUE, and what is given; a number that 64 bits don't hold is no value
pub data IsField : List ℕ → Field → Type 0 where
  text_field : (name text : List ℕ) → IsFieldName name → IsField (name ++ 61 ∷ quoted text) (given name (Some (Text text)))
  number_field : (name word : List ℕ) (number : Option ℤ) → IsFieldName name → signed_of word ≡ Some number → IsField (name ++ 61 ∷ word) (given name (option_map Whole number))

abbrev pub given_names : List Field → List (List ℕ)
given_names fields = map (λ (field : Field). field.name) fields

-- DATA, and what is sent; none where the setup doesn't take it
pub data IsData (setup : Setup) : List (List ℕ) → Option Data → Type 0 where
  no_data : IsData setup (codes "none" ∷ []) (Some Absent)
  text_data : (octets : List ℕ) → IsData setup (codes "text" ∷ quoted octets ∷ []) (Some (Octet octets))
  hex_data : (word octets : List ℕ) → IsWord word → AreHex word octets → IsData setup (codes "octet" ∷ word ∷ []) (Some (Octet octets))
  fill_data : (count digits : List ℕ) (number value : ℕ) → number_of 0 70000 count ≡ Some number → AreHex digits (value ∷ [])
      → IsData setup (codes "fill" ∷ count ∷ digits ∷ []) (Some (Octet (replicate number value)))
  struct_data : (subtype : List ℕ) (parts : List (List ℕ)) (fields : List Field) → IsWord subtype → AllZip IsField parts fields → are_distinct (given_names fields) ≡ true
      → IsData setup (codes "c" ∷ subtype ∷ parts) (struct_of setup subtype fields)
