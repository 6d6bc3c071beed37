-- Digests of services' names, by which a look-up passes most rows over.
use Rattle.std.specs.Prelude.{◌≡◌, ℕ, ◌+◌, ◌*◌, ◌%◌, ◌≤◌, List, [], ◌∷◌, map, vec_capacity}
use Rattle.xa_types.specs.declared.row.Row.{Row}
use Rattle.xa_board.specs.declared.rows.Rows.TheInside.{Inside}

-- what becomes of a digest with these octets more
abbrev pub digest_from : ℕ → List ℕ → ℕ
digest_from digest [] = digest
digest_from digest (octet ∷ rest) = digest_from ((digest % 16777216) * 131 + octet) rest

abbrev pub digest_of : List ℕ → ℕ
digest_of name = digest_from 0 name

abbrev pub digests_of : List Row → List ℕ
digests_of rows = map (λ row. digest_of row.service) rows

-- there is a digest of each row's service, and room for 256 rows
pub record HasDigests (r : Inside) : Type 0 where
  pub digests : r.digests.items ≡ digests_of r.rows.items
  pub rows : 256 ≤ vec_capacity r.rows
  pub room : 256 ≤ vec_capacity r.digests
