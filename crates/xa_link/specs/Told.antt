-- What the objects of the outside tell of their octets, and how their counts of failures rise (this project's own). An object that tells nothing
-- of its octets satisfies what is said of them, but that a part of a piece is of one that isn't empty.
use Rattle.std.specs.Prelude.{◌≡◌, ◌<◌, ◌+◌, ◌^◌, ◌-◌, min, ℕ, List, [], ◌++◌, take, length, Option, IfSome, option_map}

-- the count is one more, or stands at its end, 2^64 - 1
abbrev pub Rose : ℕ → ℕ → Type 0
Rose before now = now ≡ min (before + 1) (2 ^ 64 - 1)

-- the octets that are told grew by these; what isn't told stays so
abbrev pub Grew : Option (List ℕ) → Option (List ℕ) → List ℕ → Type 0
Grew before now more = now ≡ option_map (λ xs. xs ++ more) before

-- the octets that are told grew by the beginning of these, and not by all of them
abbrev pub GrewByPart : Option (List ℕ) → Option (List ℕ) → List ℕ → Type 0
GrewByPart before now piece = (n : ℕ) × (n < length piece) × Grew before now (take n piece)

-- these came off the front of the octets that are told; what isn't told stays so
abbrev pub Shrank : Option (List ℕ) → Option (List ℕ) → List ℕ → Type 0
Shrank before now piece = before ≡ option_map (λ xs. piece ++ xs) now

-- the octets that are told were read to their end; what isn't told stays so
abbrev pub ReadOut : Option (List ℕ) → Option (List ℕ) → Type 0
ReadOut before now = now ≡ option_map (λ xs. []) before

-- where octets are told, there are none
abbrev pub Empty : Option (List ℕ) → Type 0
Empty told = IfSome told (λ xs. xs ≡ [])
