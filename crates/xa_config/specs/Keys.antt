-- The faults at one key of a table, and the keys that a table may not have.
use Rattle.std.specs.Prelude.{ℕ, not, List, [], ◌∷◌, ◌++◌, length, map, Option, Some, None}
use Rattle.std.specs.List.{filter}
use Rattle.toml.specs.Data.{Data, array, table, Members, no_members, member, get}
use Rattle.xa_types.specs.Configured.{is_within, is_among}
use Rattle.xa_config.specs.Faults.{Fault, expects, at_key, indexed, dotted, in_order, unknown_key, missing_key, wrong_type, out_of_range}
use Rattle.xa_config.specs.Kinds.{list_of}

-- the keys of a table, which stand in byte order
abbrev pub member_keys : Members → List (List ℕ)
member_keys no_members = []
member_keys (member key value members) = key ∷ member_keys members

abbrev pub keys_in : Data → List (List ℕ)
keys_in (table members) = member_keys members
keys_in _ = []

-- the keys that aren't among these
unfoldable pub unknown_in : List (List ℕ) → Data → List (List ℕ)
unknown_in known entry = filter (λ key. not (is_among known key)) (keys_in entry)

-- each key of the table in that place that isn't among these
unfoldable pub unknown : List ℕ → List (List ℕ) → Data → List Fault
unknown place known entry = map (λ key. record { number = unknown_key; key = dotted place key }) (unknown_in known entry)

-- nothing is asked where the key isn't there
abbrev pub where_there : (Data → List Fault) → Option Data → List Fault
where_there faults None = []
where_there faults (Some value) = faults value

abbrev pub must_be_there : List ℕ → (Data → List Fault) → Option Data → List Fault
must_be_there key faults None = at_key key (missing_key ∷ [])
must_be_there key faults (Some value) = faults value

-- a key that may be absent, and one that is needed
unfoldable pub optional : List ℕ → List ℕ → (Data → List ℕ) → Data → List Fault
optional place key kind entry = where_there (λ value. at_key (dotted place key) (kind value)) (get key entry)

unfoldable pub needed : List ℕ → List ℕ → (Data → List ℕ) → Data → List Fault
needed place key kind entry = must_be_there (dotted place key) (λ value. at_key (dotted place key) (kind value)) (get key entry)

-- the elements of an array, each beside those before it
unfoldable pub elements : List ℕ → (List Data → Data → List ℕ) → List Data → List Data → List Fault
elements key kind earlier values = in_order (λ before value. at_key (indexed key (length before)) (kind before value)) earlier values

-- an array of `least` to `most` elements
unfoldable pub array_of : List ℕ → ℕ → ℕ → (List Data → Data → List ℕ) → Data → List Fault
array_of key least most kind (array values) =
    at_key key (expects (is_within least most (length (list_of values))) out_of_range) ++ elements key kind [] (list_of values)
array_of key least most kind _ = at_key key (wrong_type ∷ [])

unfoldable pub optional_array : List ℕ → List ℕ → ℕ → ℕ → (List Data → Data → List ℕ) → Data → List Fault
optional_array place key least most kind entry = where_there (array_of (dotted place key) least most kind) (get key entry)

unfoldable pub needed_array : List ℕ → List ℕ → ℕ → ℕ → (List Data → Data → List ℕ) → Data → List Fault
needed_array place key least most kind entry = must_be_there (dotted place key) (array_of (dotted place key) least most kind) (get key entry)
