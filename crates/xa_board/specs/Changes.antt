-- Changes of the board: what each leaves, and why it is refused (XATMI, tpadvertise and tpunadvertise; withdrawing all rows of a queue is this
-- project's own).
use Rattle.std.specs.Prelude.{ℕ, ◌+◌, ◌^◌, ◌==◌, nat_lt, Bool, not, if◌then◌else◌, List, [], ◌∷◌, ◌++◌, length, Option, Some, None}
use Rattle.std.specs.List.{filter}
use Rattle.std.specs.Option.{option_or}
use Rattle.std.specs.Str.{bytes_eq}
use Rattle.xa_types.specs.declared.stamp.Stamp.{Stamp}
use Rattle.xa_types.specs.declared.row.Row.{Row}
use Rattle.xa_types.specs.Rows.{is_row_of, row_of}
use Rattle.xa_events.specs.declared.event.Event.{Event}
use Rattle.xa_events.specs.declared.event.Event.TheVariants.{Withdraw}
use Rattle.xa_stamp.specs.declared.home.Stamped.{Stamped}
use Rattle.xa_stamp.specs.Home.{larger_of, with_event}
use Rattle.xa_board.specs.declared.board.BoardRefused.{BoardRefused}
use Rattle.xa_board.specs.declared.board.BoardRefused.TheVariants.{Match, NoEnt, Full, Worn}
use Rattle.xa_board.specs.Board.{BoardState, version_of}

-- the larger of a stamp that was seen and of the last one
abbrev pub larger : Stamp → BoardState → ℕ
larger seen board = larger_of seen board.first board.entries

-- the version and the stamp of the next change
abbrev pub next_change : Stamp → BoardState → ℕ × Stamp
next_change seen board = (version_of board + 1, record { 0 = larger seen board + 1 })

-- the board once this event is noted, with these rows
abbrev pub changed : BoardState → Stamp → Event → List Row → BoardState
changed board stamp event rows =
    record { first = board.first; entries = with_event stamp event board.entries; rows = rows }

-- the rows without that of the service on the queue
abbrev pub without : List ℕ → ℕ → List Row → List Row
without service queue rows = filter (λ row. not (is_row_of service queue row)) rows

abbrev pub is_on : ℕ → Row → Bool
is_on queue row = row.queue.0 == queue

-- the rows of the queue
abbrev pub rows_on : ℕ → List Row → List Row
rows_on queue rows = filter (is_on queue) rows

-- each of these rows withdrawn by the domain, behind that stamp and that version
abbrev pub withdrawals : ℕ → ℕ → List Row → List Stamped
withdrawals stamp version [] = []
withdrawals stamp version (row ∷ rest) =
    record { stamp = record { 0 = stamp + 1 }; event = Withdraw (record { by = record { 0 = 0 }; op = 0; service = row.service; queue = row.queue; version = version + 1 }) }
    ∷ withdrawals (stamp + 1) (version + 1) rest

-- the board once all rows of the queue are withdrawn
abbrev pub cleared : Stamp → ℕ → BoardState → BoardState
cleared seen queue board =
    record {
      first = board.first;
      entries = board.entries ++ withdrawals (larger seen board) (version_of board) (rows_on queue board.rows);
      rows = filter (λ row. not (is_on queue row)) board.rows;
    }

-- what bars so many changes more: they would pass the last stamp, 2^63
abbrev pub worn_by : ℕ → Stamp → BoardState → Option BoardRefused
worn_by count seen board = if nat_lt (2 ^ 63) (larger seen board + count) then Some (Worn (record { 0 = larger seen board })) else None

-- what bars a row, beside the row of its service and queue: that has another routine (TPEMATCH), or there is none and 256 rows stand (TPELIMIT)
abbrev pub bars_put : Row → List Row → Option Row → Option BoardRefused
bars_put row rows (Some standing) = if bytes_eq standing.routine row.routine then None else Some (Match standing.routine)
bars_put row rows None = if length rows == 256 then Some Full else None

-- what bars a withdrawal: there is no such row (TPENOENT)
abbrev pub bars_withdrawal : Option Row → Option BoardRefused
bars_withdrawal (Some standing) = None
bars_withdrawal None = Some NoEnt

-- why the row isn't advertised, by the first that bars it
abbrev pub advertise_refused : Stamp → Row → BoardState → Option BoardRefused
advertise_refused seen row board = option_or (bars_put row board.rows (row_of row.service row.queue.0 board.rows)) (worn_by 1 seen board)

-- why the service isn't withdrawn from the queue, by the first that bars it
abbrev pub withdraw_refused : Stamp → List ℕ → ℕ → BoardState → Option BoardRefused
withdraw_refused seen service queue board = option_or (bars_withdrawal (row_of service queue board.rows)) (worn_by 1 seen board)
