-- What the rows that are kept of each version of the board show.
use Rattle.std.specs.Prelude.{◌≡◌, ℕ, ◌+◌, ◌<◌, ◌++◌, ◌∷◌, [], not, List, length, Option, Some, None, slice_index_or}
use Rattle.std.specs.List.{filter}
use Rattle.xa_types.specs.declared.row.Row.{Row}
use Rattle.xa_types.specs.declared.setup.Setup.{Setup}
use Rattle.xa_types.specs.Rows.{Change, Put, Remove, is_row_of, row_for}
use Rattle.xa_events.specs.declared.event.Event.{Event}
use Rattle.xa_events.specs.Board.{changes, rows_of_version}
use Rattle.xa_machine.specs.declared.standing.Version.{Version}

-- the rows without that of the service on the queue
abbrev pub without_row : List ℕ → ℕ → List Row → List Row
without_row service queue standing = filter (λ row. not (is_row_of service queue row)) standing

-- the rows that stand once the change is made
abbrev pub rows_after : Setup → Change → List Row → List Row
rows_after setup (Put service queue routine) standing = without_row service queue standing ++ row_for setup service queue routine ∷ []
rows_after setup (Remove service queue) standing = without_row service queue standing

abbrev pub next_rows : Setup → Option Change → List Row → Option (List Row)
next_rows setup None standing = None
next_rows setup (Some change) standing = Some (rows_after setup change standing)

abbrev pub version_rows : Option Version → Option (List Row)
version_rows None = None
version_rows (Some version) = Some version.rows.items

-- the rows of each version, by its number
pub record VersionsShow (setup : Setup) (past : List Event) (versions : List Version) : Type 0 where
  pub many : length versions ≡ length (changes past) + 1
  pub each : (v : ℕ) (d : Version) → v < length versions → (slice_index_or versions v d).rows.items ≡ rows_of_version setup past v
