-- The parts of a line: words and quoted texts, with spaces between them; numbers and octets that a word says (this project's own).
use Rattle.std.specs.Prelude.{ℕ, ◌+◌, ◌-◌, ◌*◌, ◌≡◌, ◌<◌, ◌==◌, ◌&&◌, ◌||◌, not, nat_le, Bool, true, false, if◌then◌else◌, List, [], ◌∷◌, ◌++◌, length, Option, Some, None}
use Rattle.std.specs.List.{list_all}
use Rattle.xa_types.specs.Name.{is_digit}
use Rattle.xa_types.specs.Configured.{is_within}

-- an octet from 0x20 to 0x7E
abbrev pub is_printed : ℕ → Bool
is_printed octet = nat_le 32 octet && nat_le octet 126

abbrev pub is_space : ℕ → Bool
is_space octet = octet == 32

-- an octet that a word may have
abbrev pub is_inner : ℕ → Bool
is_inner octet = not (octet == 32)

-- nothing follows, or a space
abbrev pub is_end : List ℕ → Bool
is_end [] = true
is_end (octet ∷ rest) = octet == 32

-- a line whose first octet is `#`
abbrev pub is_comment : List ℕ → Bool
is_comment [] = false
is_comment (octet ∷ rest) = octet == 35

-- ---- parts

-- an octet or more, and no space among them
pub record IsWord (word : List ℕ) : Type 0 where
  pub some : 0 < length word
  pub inner : list_all is_inner word ≡ true

-- a part that stands in front, behind spaces perhaps, and what follows it, which is nothing or begins with a space
pub record IsInFront (part rest octets : List ℕ) : Type 0 where
  pub gap : List ℕ
  pub cut : octets ≡ gap ++ (part ++ rest)
  pub spaces : list_all is_space gap ≡ true
  pub ends : is_end rest ≡ true

-- the octets are these parts, one after another, and spaces
abbrev pub IsSpaced : List (List ℕ) → List ℕ → Type 0
IsSpaced [] octets = list_all is_space octets ≡ true
IsSpaced (part ∷ parts) octets = (rest : List ℕ) × IsInFront part rest octets × IsSpaced parts rest

-- the first word of a line that is no comment
pub record IsFirstWord (word line : List ℕ) : Type 0 where
  pub rest : List ℕ
  pub is_word : IsWord word
  pub front : IsInFront word rest line
  pub apart : is_comment line ≡ false

-- ---- what a part says

-- a double quote or a backslash
abbrev pub is_marked : ℕ → Bool
is_marked octet = octet == 34 || octet == 92

-- such an octet has a backslash before it
abbrev pub escaped : List ℕ → List ℕ
escaped [] = []
escaped (octet ∷ text) = if is_marked octet then 92 ∷ octet ∷ escaped text else octet ∷ escaped text

abbrev pub quoted : List ℕ → List ℕ
quoted text = 34 ∷ (escaped text ++ 34 ∷ [])

-- the number that these digits go on
abbrev pub decimal_from : ℕ → List ℕ → ℕ
decimal_from n [] = n
decimal_from n (digit ∷ digits) = decimal_from (n * 10 + (digit - 48)) digits

abbrev pub decimal : List ℕ → ℕ
decimal digits = decimal_from 0 digits

-- digits, of which the first is no zero but in `0`
abbrev pub is_decimal : List ℕ → Bool
is_decimal [] = false
is_decimal (digit ∷ []) = is_digit digit
is_decimal (digit ∷ other ∷ digits) = not (digit == 48) && list_all is_digit (digit ∷ other ∷ digits)

-- a number in decimal from the one to the other
unfoldable pub number_of : ℕ → ℕ → List ℕ → Option ℕ
number_of least most word = if is_decimal word && is_within least most (decimal word) then Some (decimal word) else None

-- the digits 0 to 9 and a to f
abbrev pub hex_digit : ℕ → Option ℕ
hex_digit octet = if is_digit octet then Some (octet - 48) else (if nat_le 97 octet && nat_le octet 102 then Some (octet - 87) else None)

-- a word has two such digits for each of these octets
abbrev pub AreHex : List ℕ → List ℕ → Type 0
AreHex [] octets = octets ≡ []
AreHex (high ∷ []) octets = ⊥
AreHex (high ∷ low ∷ word) octets = (a : ℕ) × (b : ℕ) × (more : List ℕ) × (hex_digit high ≡ Some a) × (hex_digit low ≡ Some b) × AreHex word more × (octets ≡ (a * 16 + b) ∷ more)
