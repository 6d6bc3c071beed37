-- What a whole file or a whole source is told to hold.
use Rattle.std.specs.Prelude.{◌≡◌, ◌<◌, ℕ, List, length, Option, Some, IfSome}
use Rattle.xa_link.specs.Told.{Grew}

-- what is told is that the file is there, and has these octets
abbrev pub Holds : Option (Option (List ℕ)) → List ℕ → Type 0
Holds told octets = IfSome told (λ file. file ≡ Some octets)

-- what is told is that the file is there, and has more octets than that
abbrev pub HoldsMore : Option (Option (List ℕ)) → ℕ → Type 0
HoldsMore told limit = IfSome told (λ file. (octets : List ℕ) × (file ≡ Some octets) × (limit < length octets))

-- what is told is these octets
abbrev pub HasExactly : Option (List ℕ) → List ℕ → Type 0
HasExactly told octets = IfSome told (λ xs. xs ≡ octets)

-- what is told is more octets than that
abbrev pub HasMore : Option (List ℕ) → ℕ → Type 0
HasMore told limit = IfSome told (λ xs. limit < length xs)

-- the octets that are told grew by more octets than that; what isn't told stays so
abbrev pub GrewByMore : Option (List ℕ) → Option (List ℕ) → ℕ → Type 0
GrewByMore before now limit = (octets : List ℕ) × (limit < length octets) × Grew before now octets
