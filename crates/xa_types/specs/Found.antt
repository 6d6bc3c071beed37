-- What a lookup of the board found.
use Rattle.std.specs.Prelude.{ℕ, List}
use Rattle.xa_types.specs.declared.row.Row.{Row}
use Rattle.xa_types.specs.declared.stamp.Stamp.{Stamp}

-- a version of the board, its stamp, the rows of the service that was looked up, in the board's order, and for how many more rows it has room
pub record FoundRows : Type 0 where
  pub version : ℕ
  pub stamp : Stamp
  pub rows : List Row
  pub room : ℕ
