-- What may be wrong with a configuration, and the key at which it is told (this project's own).
use Rattle.std.specs.Prelude.{ℕ, Bool, true, false, List, [], ◌∷◌, ◌++◌, map, codes, decimal}
use Rattle.toml.specs.Data.{Data}

-- the octets are no document
abbrev pub not_toml : ℕ
not_toml = 1

abbrev pub unknown_key : ℕ
unknown_key = 2

abbrev pub missing_key : ℕ
missing_key = 3

abbrev pub wrong_type : ℕ
wrong_type = 4

-- a number, a text's length or an array's length
abbrev pub out_of_range : ℕ
out_of_range = 5

abbrev pub bad_name : ℕ
bad_name = 6

abbrev pub doubled : ℕ
doubled = 7

abbrev pub no_such : ℕ
no_such = 8

abbrev pub field_type : ℕ
field_type = 9

abbrev pub too_many : ℕ
too_many = 10

-- a queue that no server names
abbrev pub no_server : ℕ
no_server = 11

-- a fault: its number, and the octets of its key
pub record Fault : Type 0 where
  pub number : ℕ
  pub key : List ℕ

abbrev pub fault : List ℕ → ℕ → Fault
fault key number = record { number = number; key = key }

-- this fault, where the test fails
abbrev pub expects : Bool → ℕ → List ℕ
expects true number = []
expects false number = number ∷ []

-- the faults with these numbers, at that key
abbrev pub at_key : List ℕ → List ℕ → List Fault
at_key key numbers = map (fault key) numbers

-- `server[0]`: places are counted from 0
abbrev pub indexed : List ℕ → ℕ → List ℕ
indexed key place = key ++ codes "[" ++ decimal place ++ codes "]"

-- `server[0].queue`
abbrev pub dotted : List ℕ → List ℕ → List ℕ
dotted table key = table ++ codes "." ++ key

-- the faults of one value after the other, each beside those before it
abbrev pub in_order : (List Data → Data → List Fault) → List Data → List Data → List Fault
in_order faults earlier [] = []
in_order faults earlier (value ∷ values) = faults earlier value ++ in_order faults (earlier ++ value ∷ []) values
