-- The board under a lock, as it stands (this project's own).
use Rattle.std.specs.Prelude.{◌≡◌, ℕ, ◌+◌, ◌<◌, ◌≤◌, ◌^◌, max, List, [], ◌∷◌, ◌++◌, length}
use Rattle.std.specs.List.{All, flat_map}
use Rattle.xa_types.specs.declared.row.Row.{Row}
use Rattle.xa_types.specs.declared.setup.Setup.{Setup}
use Rattle.xa_types.specs.declared.stamp.Stamp.{Stamp}
use Rattle.xa_lock.specs.declared.makers.Made.{Made}
use Rattle.xa_lock.specs.Makers.{noted_in}
use Rattle.xa_lock.specs.Pages.{StartsWith}
use Rattle.xa_board.specs.Board.{BoardState, IsAsConfigured, stamp_of}
use Rattle.xa_held.specs.declared.kept_board.BoardNote.{BoardNote}
use Rattle.xa_held.specs.declared.kept_board.BoardNote.TheVariants.{Opened, By, Looked}

-- what it is: the board, the setup that its rows are by, the greatest stamp of a change or a look, and its home as its lock knows it
pub record Held : Type 0 where
  pub board : BoardState
  pub setup : Setup
  pub last : Stamp
  pub notes : List BoardNote

-- the maker of an entry; what setup the rows are by, is maker 0's
abbrev pub maker_of : BoardNote → ℕ
maker_of (Opened setup) = 0
maker_of (By made) = made.maker.0
maker_of (Looked look) = look.maker.0

abbrev pub made_of : BoardNote → List Made
made_of (Opened setup) = []
made_of (By made) = made ∷ []
made_of (Looked look) = []

-- the changes, without the looks
abbrev pub made_in : List BoardNote → List Made
made_in notes = flat_map made_of notes

-- a change has a greater stamp than all that stands before it, and a look no smaller one; a look says which was the last one before it
abbrev pub Climbs : ℕ → List BoardNote → Type 0
Climbs least [] = Unit {0}
Climbs least (Opened setup ∷ rest) = Climbs least rest
Climbs least (By made ∷ rest) = (least < made.noted.stamp.0) × Climbs made.noted.stamp.0 rest
Climbs least (Looked look ∷ rest) = (least ≤ look.stamp.0) × Climbs look.stamp.0 rest × (look.before.0 ≡ least)

-- the stamp of the last change or look
abbrev pub top : ℕ → List BoardNote → ℕ
top least [] = least
top least (Opened setup ∷ rest) = top least rest
top least (By made ∷ rest) = top made.noted.stamp.0 rest
top least (Looked look ∷ rest) = top look.stamp.0 rest

-- the row is as the setup gives it, on a queue of the setup
pub record IsPlaced (setup : Setup) (row : Row) : Type 0 where
  pub configured : IsAsConfigured setup row
  pub some : 0 < row.queue.0
  pub least : row.queue.0 < length setup.queues + 1

-- what holds of each board under a lock
pub record IsSoundBoard (held : Held) : Type 0 where
  pub opened : StartsWith held.notes (Opened held.setup ∷ [])
  pub placed : All (IsPlaced held.setup) held.board.rows
  pub noted : noted_in (made_in held.notes) ≡ held.board.entries
  pub begins : held.board.first.0 ≡ 0
  pub climbs : Climbs held.board.first.0 held.notes
  pub latest : top held.board.first.0 held.notes ≡ held.last.0
  pub bound : held.last.0 ≤ 2 ^ 63
  pub behind : stamp_of held.board ≤ held.last.0

-- these changes and looks came behind the others, and else it changed so
pub record Turns (old new : Held) (more : List BoardNote) (How : Held → Held → Type 0) : Type 0 where
  pub first : new.board.first ≡ old.board.first
  pub setup : new.setup ≡ old.setup
  pub notes : new.notes ≡ old.notes ++ more
  pub how : How old new

-- the larger of a stamp that was seen and of the last one
abbrev pub raised : Stamp → Held → Stamp
raised seen held = record { 0 = max seen.0 held.last.0 }
