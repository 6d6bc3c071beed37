-- The board: the rows that are advertised, read off the list of its changes (XATMI, tpadvertise and tpunadvertise; that a priority is 50 where
-- none is configured is after Tuxedo, PRIO of UBBCONFIG; versions are this project's own).
use Rattle.std.specs.Prelude.{ℕ, ◌-◌, ◌==◌, ◌&&◌, not, Bool, true, false, List, [], ◌∷◌, ◌++◌, length, drop, map, Option, Some, None}
use Rattle.std.specs.List.{filter, find, flat_map}
use Rattle.xa_types.specs.declared.row.Row.{Row}
use Rattle.xa_types.specs.declared.row.Accepts.{Accepts}
use Rattle.xa_types.specs.declared.setup.Setup.{Setup}
use Rattle.xa_types.specs.declared.setup.ServiceSetup.{ServiceSetup}
use Rattle.xa_types.specs.Setup.{service_named, queue_named}
use Rattle.std.specs.Str.{bytes_eq}

-- one change: a service advertised on a queue with a routine, or withdrawn from it
pub data Change : Type 0 where
  Put : (service : List ℕ) → (queue : ℕ) → (routine : List ℕ) → Change
  Remove : (service : List ℕ) → (queue : ℕ) → Change

abbrev pub all_kinds : Accepts
all_kinds = record { octet = true; structs = 18446744073709551615 }

abbrev pub row_with : Option ServiceSetup → List ℕ → ℕ → List ℕ → Row
row_with None service queue routine =
    record { service = service; queue = record { 0 = queue }; routine = routine; priority = 50; conversational = false; accepts = all_kinds }
row_with (Some configured) service queue routine =
    record { service = service; queue = record { 0 = queue }; routine = routine; priority = configured.priority; conversational = configured.conversational; accepts = configured.accepts }

-- a row has the attributes that the setup gives its service; a service that isn't configured has priority 50, accepts all kinds and isn't conversational
abbrev pub row_for : Setup → List ℕ → ℕ → List ℕ → Row
row_for setup service queue routine = row_with (service_named setup service) service queue routine

-- the row is of that service and that queue
abbrev pub is_row_of : List ℕ → ℕ → Row → Bool
is_row_of service queue row = bytes_eq row.service service && (row.queue.0 == queue)

-- the rows that stand after these changes, of which the newest is first
abbrev pub rows : Setup → List Change → List Row
rows setup [] = []
rows setup (Put service queue routine ∷ earlier) = filter (λ row. not (is_row_of service queue row)) (rows setup earlier) ++ row_for setup service queue routine ∷ []
rows setup (Remove service queue ∷ earlier) = filter (λ row. not (is_row_of service queue row)) (rows setup earlier)

-- the rows of version v: those after the first v changes
abbrev pub rows_at : Setup → List Change → ℕ → List Row
rows_at setup changes v = rows setup (drop (length changes - v) changes)

-- both or neither
abbrev pub same_truth : Bool → Bool → Bool
same_truth true b = b
same_truth false b = not b

-- the rows that a call of that service sees: those that aren't conversational, or those that are where it begins a conversation
abbrev pub listed : Setup → List Change → ℕ → List ℕ → Bool → List Row
listed setup changes v service conversational =
    filter (λ row. bytes_eq row.service service && same_truth row.conversational conversational) (rows_at setup changes v)

-- the row of a service on a queue
abbrev pub row_of : List ℕ → ℕ → List Row → Option Row
row_of service queue standing = find (is_row_of service queue) standing

abbrev pub changes_of : Setup → ServiceSetup → List Change
changes_of setup service = map (λ name. Put service.name (queue_named setup name) service.routine) service.queues

-- what the boot advertises: each configured service on each of its queues, in the order of the setup
abbrev pub configured : Setup → List Change
configured setup = flat_map (changes_of setup) setup.services
