-- The kinds of value that a key may have: which faults a value has, by their numbers in the order in which they are told, and what it says.
use Rattle.std.specs.Prelude.{ℕ, pos, negsuc, Bool, true, false, not, ◌||◌, List, [], ◌∷◌, ◌++◌, length, map, codes}
use Rattle.std.specs.List.{list_any}
use Rattle.std.specs.Str.{bytes_eq}
use Rattle.toml.specs.Data.{Data, string, integer, boolean, array, table, Items, no_items, item}
use Rattle.xa_types.specs.Configured.{is_within, is_among}
use Rattle.xa_types.specs.Name.{is_name}
use Rattle.xa_config.specs.Faults.{expects, wrong_type, out_of_range, bad_name, doubled, no_such, field_type}
use Rattle.xa_config.specs.Field.{is_field, name_part}

abbrev pub list_of : Items → List Data
list_of no_items = []
list_of (item value values) = value ∷ list_of values

-- what a value of the right kind says; of another kind, nothing
abbrev pub text_in : Data → List ℕ
text_in (string octets) = octets
text_in _ = []

abbrev pub number_in : Data → ℕ
number_in (integer (pos n)) = n
number_in _ = 0

abbrev pub truth_in : Data → Bool
truth_in (boolean b) = b
truth_in _ = false

abbrev pub list_in : Data → List Data
list_in (array values) = list_of values
list_in _ = []

abbrev pub is_table : Data → Bool
is_table (table _) = true
is_table _ = false

-- a whole number from `least` to `most`
unfoldable pub number : ℕ → ℕ → Data → List ℕ
number least most (integer (pos n)) = expects (is_within least most n) out_of_range
number least most (integer (negsuc n)) = out_of_range ∷ []
number least most _ = wrong_type ∷ []

unfoldable pub truth : Data → List ℕ
truth (boolean b) = []
truth _ = wrong_type ∷ []

-- a text, of which that is asked
abbrev pub text : (List ℕ → List ℕ) → Data → List ℕ
text asked (string octets) = asked octets
text asked _ = wrong_type ∷ []

-- a text of 1 to 255 octets
unfoldable pub program : Data → List ℕ
program value = text (λ octets. expects (is_within 1 255 (length octets)) out_of_range) value

unfoldable pub name : Data → List ℕ
name value = text (λ octets. expects (is_name octets) bad_name) value

-- a name, or an identifier, that no earlier entry has
unfoldable pub new_name : (List ℕ → Bool) → List (List ℕ) → Data → List ℕ
new_name is_good earlier value =
    text (λ octets. expects (is_good octets) bad_name ++ expects (not (is_among earlier octets)) doubled) value

-- a name that is one of these
unfoldable pub name_among : List (List ℕ) → Data → List ℕ
name_among names value = text (λ octets. expects (is_name octets) bad_name ++ expects (is_among names octets) no_such) value

-- an element of `fields`: a field's text, whose name no earlier element has
unfoldable pub field : List Data → Data → List ℕ
field earlier value =
    text (λ octets. expects (is_field octets) field_type
    ++ expects (not (is_among (map (λ before. name_part (text_in before)) earlier) (name_part octets))) doubled) value

-- an element of `queues`: the name of a queue, which no earlier element is
unfoldable pub queue : List (List ℕ) → List Data → Data → List ℕ
queue names earlier value =
    text (λ octets. expects (is_name octets) bad_name ++ expects (not (is_among (map text_in earlier) octets)) doubled
    ++ expects (is_among names octets) no_such) value

-- `octet`, or `c:` and the name of a shape
abbrev pub is_kind : List (List ℕ) → List ℕ → Bool
is_kind shapes octets = bytes_eq octets (codes "octet") || list_any (λ shape. bytes_eq octets (codes "c:" ++ shape)) shapes

-- an element of `accepts`: such a kind, which no earlier element is
unfoldable pub kind : List (List ℕ) → List Data → Data → List ℕ
kind shapes earlier value =
    text (λ octets. expects (not (is_among (map text_in earlier) octets)) doubled ++ expects (is_kind shapes octets) no_such) value
