-- What a look-up found, as a worker may show it (XATMI, tpcall; versions of the board are this project's own).
use Rattle.std.specs.Prelude.{◌≡◌, ℕ, ◌+◌, ◌<◌, ◌≤◌, ◌^◌, true, false, List, length}
use Rattle.std.specs.List.{All, Contains}
use Rattle.xa_server.specs.xa_types.declared.data.Data.{Data}
use Rattle.xa_server.specs.xa_types.declared.ids.RequestId.{RequestId}
use Rattle.xa_server.specs.xa_types.declared.row.Row.{Row}
use Rattle.xa_server.specs.xa_types.declared.stamp.Stamp.{Stamp}
use Rattle.xa_server.specs.xa_types.Found.{FoundRows}
use Rattle.xa_server.specs.xa_types.Kind.{is_accepted, kind_of, is_sound}
use Rattle.xa_server.specs.xa_types.Setup.{capacity_of}
use Rattle.xa_server.specs.xa_events.declared.event.Event.{Event}
use Rattle.xa_server.specs.xa_events.declared.event.Event.TheVariants.{Accept}
use Rattle.xa_server.specs.xa_events.Board.{boot, published, listed_in}
use Rattle.xa_server.specs.xa_events.Homes.Home.{BoardHome, QueueHome}
use Rattle.xa_server.specs.xa_events.Queue.{is_down, is_closed, waiting}
use Rattle.xa_server.specs.xa_events.Cases.{RowStands, RowAdmits}
use Rattle.xa_server.specs.xa_worker.Seen.{past_in, SawFront, SawQueue, SawSince, SawInHand}
use Rattle.xa_server.specs.xa_queue.declared.entry.Entry.{Entry}
use Rattle.xa_server.specs.xa_queue.declared.queue.Refusal.{Refusal}
use Rattle.xa_server.specs.xa_queue.declared.queue.Refusal.TheVariants as refusals
use Rattle.xa_server.specs.xa_held.Joins.{changes_at}
use Rattle.xa_server.specs.xa_held.Kept.{IsRight}
use Rattle.xa_server.specs.xa_caller.declared.outcomes.Aimed.{Aimed}
use Rattle.xa_server.specs.xa_caller.declared.outcomes.Aimed.TheVariants as aims
use Rattle.xa_server.specs.xa_caller.declared.phase.Draft.{Draft}
use Rattle.xa_server.specs.xa_caller.declared.phase.Phase.TheVariants.{Prepared}
use Rattle.xa_server.specs.xa_caller.Caller.{CallerState, AreRowsOf}
use Rattle.xa_server.specs.xa_caller.Drafts.{Cargo, accepted_by, entry_by}
use Rattle.xa_desk.specs.declared.domain.Domain.{Domain}
use Rattle.xa_desk.specs.declared.desk.Desk.{Desk}
use Rattle.xa_desk.specs.Whole.{Whole, entries_of}
use Rattle.xa_desk.specs.Desks.{GoesOn, board_page}

-- P held of a front of the home in the end, for any stamp that the desk notes from now on
abbrev pub SawOnBoard : Domain → Desk → (List Event → Type 0) → Type 0
SawOnBoard d desk P = (whole : Whole) → GoesOn d whole desk → (stamp : Stamp) → desk.caller.work.stamp.0 < stamp.0 → SawFront (entries_of whole BoardHome) stamp P

-- and of the queue with that number, if no request had been sent there while it waited there
abbrev pub SawAtQueue : Domain → ℕ → Desk → (List Event → Type 0) → Type 0
SawAtQueue d queue desk P = (whole : Whole) → GoesOn d whole desk → (stamp : Stamp) → desk.caller.work.stamp.0 < stamp.0 → SawQueue d.setup queue (entries_of whole (QueueHome queue)) stamp P

-- and the front has all that the desk's worker noted there
abbrev pub SawItsOwnAt : Domain → ℕ → Desk → (List Event → Type 0) → Type 0
SawItsOwnAt d queue desk P = (whole : Whole) → GoesOn d whole desk → (stamp : Stamp) → desk.caller.work.stamp.0 < stamp.0
    → SawSince d.setup d.clients (entries_of whole) stamp desk.caller.work.id.0 queue P (past_in desk.caller.work.own)

-- and so it is of the queue of that server, whose desk it is, up to its last take of a request
abbrev pub SawInHandAt : Domain → ℕ → Desk → (List Event → Type 0) → Type 0
SawInHandAt d server desk P = (whole : Whole) → GoesOn d whole desk → (stamp : Stamp) → desk.caller.work.stamp.0 < stamp.0
    → SawInHand d.setup d.clients (entries_of whole) stamp server P (past_in desk.caller.work.own)

-- the rows of the service that were found are those that the version lists, which is no older than the boot's and what the caller read, and was seen, and
-- each of them stands there
pub record HasFound (d : Domain) (service : List ℕ) (found : FoundRows) (desk : Desk) : Type 0 where
  pub rows : AreRowsOf d.setup service found.rows
  pub places : All (λ (row : Row). (0 < row.queue.0) × (row.queue.0 < length d.queues.items + 1)) found.rows
  pub recent : desk.caller.least ≤ found.version
  pub booted : boot d.setup ≤ found.version
  pub seen : found.version ≤ published (past_in (changes_at (board_page desk).seen))
  pub listed : SawOnBoard d desk (λ past. (found.version ≤ published past) × (listed_in d.setup past found.version service false ≡ found.rows))
  pub stand : (payload : Data) → All (λ (row : Row). is_accepted d.setup row.accepts (kind_of payload) ≡ true
      → SawOnBoard d desk (RowStands d.setup found.version service row.queue.0 (RowAdmits d.setup false row.routine payload))) found.rows

-- the caller's next request
abbrev pub next_request : CallerState → RequestId
next_request c = record { caller = c.work.id; number = c.sent + 1 }

-- a request that was prepared is aimed by one of the rows that were found, and its entry and the event that brings it say so, with the priority that
-- its caller set
pub record IsAimed (d : Domain) (found : FoundRows) (payload : Data) (entry : Entry Cargo) (event : Event) (desk : Desk) : Type 0 where
  pub draft : Draft
  pub prepared : desk.caller.phase ≡ Prepared draft
  pub drafted : draft.event.value ≡ event
  pub mine : draft.asked.request ≡ next_request desk.caller
  pub turn : draft.op ≡ desk.caller.op + 1
  pub version : draft.version ≡ found.version
  pub sound : is_sound d.setup payload ≡ true
  pub row : Row
  pub among : Contains found.rows row
  pub accepts : is_accepted d.setup row.accepts (kind_of payload) ≡ true
  pub entry_is : entry ≡ entry_by draft.asked.request row desk.caller.priority payload entry.cargo.ticket
  pub event_is : event ≡ Accept (accepted_by draft.op draft.asked.request found.version row desk.caller.priority payload)
  pub right : IsRight d.cells entry
  pub cell : draft.asked.place.cell ≡ entry.cargo.ticket.cell

-- what comes back of aiming a request anew is aimed by such a row still
abbrev pub StillAimed : Domain → FoundRows → Data → Event → Aimed → Desk → Type 0
StillAimed d found payload event (aims.At entry other) desk = IsAimed d found payload entry other desk
StillAimed d found payload event (aims.Past entry) desk = IsAimed d found payload entry event desk
StillAimed d found payload event (aims.NoMemory entry) desk = IsAimed d found payload entry event desk

-- why a queue didn't take a request, as the desk may show it
abbrev pub ShowsWhy : Domain → ℕ → Refusal → Desk → Type 0
ShowsWhy d queue refusals.Down desk = SawItsOwnAt d queue desk (λ past. is_down queue past ≡ true)
ShowsWhy d queue refusals.Closed desk = SawItsOwnAt d queue desk (λ past. is_closed queue past ≡ true)
ShowsWhy d queue (refusals.Full n) desk = (0 < n) × (n ≡ capacity_of d.setup queue) × SawItsOwnAt d queue desk (λ past. length (waiting d.setup queue past) ≡ n)
ShowsWhy d queue (refusals.Worn stamp) desk = (stamp.0 ≡ 2 ^ 63) × (desk.caller.work.stamp.0 ≡ 2 ^ 63)
ShowsWhy d queue refusals.NoMemory desk = Unit {0}

-- the event accepts a request, at the queue with that number
abbrev pub IsAccept : Event → Type 0
IsAccept (Accept a) = 0 < a.queue.0
IsAccept _ = ⊥

abbrev pub queue_in : Event → ℕ
queue_in (Accept a) = a.queue.0
queue_in _ = 0
