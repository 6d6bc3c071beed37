-- Names of services, queues, servers, shapes and clients (this project's own; XATMI only bounds the length of a service's name).
use Rattle.std.specs.Prelude.{ℕ, Bool, false, ◌&&◌, ◌||◌, not, ◌==◌, nat_le, List, [], ◌∷◌, length, IsTrue}
use Rattle.std.specs.List.{list_all}

-- an octet from 0x21 to 0x7E
abbrev pub is_graphic : ℕ → Bool
is_graphic octet = nat_le 33 octet && nat_le octet 126

abbrev pub begins_with_dot : List ℕ → Bool
begins_with_dot [] = false
begins_with_dot (first ∷ rest) = first == 46

-- a name has 1 to 31 such octets, of which the first is no dot
abbrev pub is_name : List ℕ → Bool
is_name octets = (nat_le 1 (length octets) && nat_le (length octets) 31) && (list_all is_graphic octets && not (begins_with_dot octets))

abbrev pub IsName : List ℕ → Type 0
IsName octets = IsTrue (is_name octets)

-- an octet from 0x41 to 0x5A or from 0x61 to 0x7A
abbrev pub is_letter : ℕ → Bool
is_letter octet = (nat_le 65 octet && nat_le octet 90) || (nat_le 97 octet && nat_le octet 122)

abbrev pub is_digit : ℕ → Bool
is_digit octet = nat_le 48 octet && nat_le octet 57

abbrev pub begins_with_letter : List ℕ → Bool
begins_with_letter [] = false
begins_with_letter (first ∷ rest) = is_letter first

-- an identifier is a name of letters, digits and `_` that begins with a letter
abbrev pub is_identifier : List ℕ → Bool
is_identifier octets = is_name octets && begins_with_letter octets && list_all (λ octet. (is_letter octet || is_digit octet) || (octet == 95)) octets
