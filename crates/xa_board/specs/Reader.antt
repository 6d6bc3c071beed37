-- Readers of the board (this project's own).
use Rattle.std.specs.Prelude.{◌≡◌, ℕ, Bool, List}
use Rattle.xa_types.specs.Found.{FoundRows}
use Rattle.xa_board.specs.Board.{BoardState, version_of, stamp_of, rows_seen}

-- what a reader is: what it found last, and the least version that it may find from now on
pub record Known : Type 0 where
  pub found : FoundRows
  pub least : ℕ

-- what a lookup of that service finds on the board
pub record Finds (board : BoardState) (service : List ℕ) (conversational : Bool) (found : FoundRows) : Type 0 where
  pub version : found.version ≡ version_of board
  pub stamp : found.stamp.0 ≡ stamp_of board
  pub rows : found.rows ≡ rows_seen service conversational board.rows
