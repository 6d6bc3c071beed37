-- How a board is kept.
use Rattle.std.specs.Prelude.{◌≡◌}
use Rattle.xa_board.specs.declared.board.Board.TheInside.{Inside}
use Rattle.xa_board.specs.Board.{BoardState, ReadsAsNoted}

abbrev pub standing_of : Inside → BoardState
standing_of b = record { first = b.home.first; entries = b.home.entries; rows = b.rows }

-- it reads as noted, and its first stamp is that of its home
pub record IsKept (b : Inside) : Type 0 where
  pub board : ReadsAsNoted (standing_of b)
  pub first : b.first ≡ b.home.first
