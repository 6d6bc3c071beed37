-- How the client of a trial stands: between its calls, with a request that is to be put on a queue, and with one whose answer is to come.
use Rattle.std.specs.Prelude.{◌≡◌, ℕ, ◌+◌, ◌≤◌, true}
use Rattle.xa_types.specs.declared.setup.Setup.{Setup}
use Rattle.xa_types.specs.Found.{FoundRows}
use Rattle.xa_types.specs.Kind.{is_sound}
use Rattle.xa_events.specs.Caller.{is_client}
use Rattle.xa_cell.specs.declared.cells.Cells.{Cells}
use Rattle.xa_cell.specs.Known.{IsSeatOf, IsTicketOf}
use Rattle.xa_queue.specs.declared.entry.Entry.{Entry}
use Rattle.xa_caller.specs.xa_frame.Spelling.{IsData}
use Rattle.xa_caller.specs.declared.cargo.Filling.{Filling}
use Rattle.xa_caller.specs.declared.phase.Draft.{Draft}
use Rattle.xa_caller.specs.declared.phase.Phase.TheVariants.{Idle, Prepared}
use Rattle.xa_caller.specs.Drafts.{Cargo}
use Rattle.xa_caller.specs.Phases.{IsSent}
use Rattle.xa_caller.specs.Caller.{CallerState, AreRowsOf}

-- these are of a client of that setup whose last call had that number: its setup, how many clients there are, its own number, that of its last
-- call, and the least version that it may read
pub record IsClient (setup : Setup) (last : ℕ) (its : Setup) (clients id op least : ℕ) : Type 0 where
  pub configured : its ≡ setup
  pub client : is_client clients id ≡ true
  pub number : op ≡ last
  pub low : least ≤ 256

abbrev pub Stands : Setup → ℕ → CallerState → Type 0
Stands setup last c = IsClient setup last c.work.setup c.work.clients c.work.id.0 c.op c.least

-- its seat is one of these cells, and it may make its next call
abbrev pub Rests : Setup → Cells Filling → ℕ → CallerState → Type 0
Rests setup cells last c = IsSeatOf cells c.seat × Stands setup last c × (c.phase ≡ Idle)

-- that entry is to be put on one of the queues that were found, for its next call
pub record HasDraft (setup : Setup) (cells : Cells Filling) (last : ℕ) (found : FoundRows) (entry : Entry Cargo) (c : CallerState) : Type 0 where
  pub seat : IsSeatOf cells c.seat
  pub stands : Stands setup last c
  pub draft : Draft
  pub was : c.phase ≡ Prepared draft
  pub next : draft.op ≡ last + 1
  pub version : draft.version ≡ found.version
  pub low : found.version ≤ 256
  pub cell : draft.asked.place.cell ≡ entry.cargo.ticket.cell
  pub sound : is_sound setup entry.cargo.invocation.payload ≡ true
  pub spelled : IsData entry.cargo.invocation.payload
  pub rows : AreRowsOf setup entry.cargo.invocation.service found.rows
  pub ticket : IsTicketOf cells entry.cargo.ticket

-- the answer to its request is to come
abbrev pub IsOut : Setup → Cells Filling → ℕ → CallerState → Type 0
IsOut setup cells last c = IsSeatOf cells c.seat × Stands setup last c × IsSent c.phase

-- that entry was put on a queue, its ticket isn't spent, and its data has a spelling
abbrev pub Awaits : Setup → Cells Filling → ℕ → Entry Cargo → CallerState → Type 0
Awaits setup cells last entry c = IsOut setup cells last c × IsTicketOf cells entry.cargo.ticket × IsData entry.cargo.invocation.payload
