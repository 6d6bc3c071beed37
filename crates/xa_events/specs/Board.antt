-- The board, read off the events: which services are advertised on which queues (XATMI, tpadvertise). That the domain changes it, at the boot
-- and where a queue's last server is gone, is this project's own.
use Rattle.std.specs.Prelude.{ℕ, Bool, List, length, Option, Some, None}
use Rattle.std.specs.List.{filter_map}
use Rattle.xa_types.specs.declared.setup.Setup.{Setup}
use Rattle.xa_types.specs.declared.row.Row.{Row}
use Rattle.xa_types.specs.Rows.{Change, Put, Remove, rows_at, listed, configured}
use Rattle.xa_events.specs.declared.event.Event.{Event}
use Rattle.xa_events.specs.declared.event.Event.TheVariants.{Advertise, Withdraw}

abbrev pub change_in : Event → Option Change
change_in (Advertise a) = Some (Put a.service a.queue.0 a.routine)
change_in (Withdraw w) = Some (Remove w.service w.queue.0)
change_in _ = None

-- the changes of the board, the newest first
unfoldable pub changes : List Event → List Change
changes past = filter_map change_in past

-- the version of the board: how many changes were made
unfoldable pub published : List Event → ℕ
published past = length (changes past)

-- how many changes the boot makes, which is what the domain advertises before anything else
abbrev pub boot : Setup → ℕ
boot setup = length (configured setup)

-- the rows of version v
unfoldable pub rows_of_version : Setup → List Event → ℕ → List Row
rows_of_version setup past v = rows_at setup (changes past) v

-- the rows of version v that a call to that service sees
unfoldable pub listed_in : Setup → List Event → ℕ → List ℕ → Bool → List Row
listed_in setup past v service conversational = listed setup (changes past) v service conversational
