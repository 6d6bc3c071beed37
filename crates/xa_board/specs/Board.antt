-- The board as it stands, and how it reads (XATMI, tpadvertise and tpunadvertise; versions, stamps and the limit of 256 rows are this
-- project's own).
use Rattle.std.specs.Prelude.{◌≡◌, ℕ, ◌≤◌, Bool, ◌&&◌, List, length, map, reverse}
use Rattle.std.specs.List.{filter}
use Rattle.std.specs.Str.{bytes_eq}
use Rattle.xa_types.specs.declared.stamp.Stamp.{Stamp}
use Rattle.xa_types.specs.declared.row.Row.{Row}
use Rattle.xa_types.specs.declared.setup.Setup.{Setup}
use Rattle.xa_types.specs.Rows.{Change, Put, row_for, same_truth}
use Rattle.xa_events.specs.declared.event.Event.{Event}
use Rattle.xa_events.specs.Board.{published, rows_of_version}
use Rattle.xa_stamp.specs.declared.home.Stamped.{Stamped}
use Rattle.xa_stamp.specs.Home.{last_stamp}

-- what a board is: the stamp with which it begins, its changes as they were noted, and the rows that stand, in their order
pub record BoardState : Type 0 where
  pub first : Stamp
  pub entries : List Stamped
  pub rows : List Row

-- the events that were noted, the newest first
abbrev pub past_of : BoardState → List Event
past_of board = reverse (map (λ noted. noted.event) board.entries)

-- how many changes were made
abbrev pub version_of : BoardState → ℕ
version_of board = published (past_of board)

-- the stamp of the last change; the first one where none was made
abbrev pub stamp_of : BoardState → ℕ
stamp_of board = last_stamp board.first board.entries

-- the change that puts a row: its service, queue and routine
abbrev pub put_of : Row → Change
put_of row = Put row.service row.queue.0 row.routine

-- the board reads as its events do: each of them is a change, the rows that stand have the services, queues and routines of those that the
-- changes leave, which are the same by every setup, and there are 256 at most
pub record ReadsAsNoted (board : BoardState) : Type 0 where
  pub changes : version_of board ≡ length board.entries
  pub standing : (setup : Setup) → map put_of board.rows ≡ map put_of (rows_of_version setup (past_of board) (version_of board))
  pub few : length board.rows ≤ 256

-- the row has the attributes that the setup gives its service
abbrev pub IsAsConfigured : Setup → Row → Type 0
IsAsConfigured setup row = row ≡ row_for setup row.service row.queue.0 row.routine

-- the rows that a call of that service sees
abbrev pub rows_seen : List ℕ → Bool → List Row → List Row
rows_seen service conversational rows = filter (λ row. bytes_eq row.service service && same_truth row.conversational conversational) rows
