-- A client and a server at a queue as a lock guards it.
use Rattle.std.specs.Prelude.{◌≡◌, ℕ, ◌≤◌, true, [], ◌∷◌}
use Rattle.std.specs.List.{All}
use Rattle.xa_types.specs.declared.data.Data.TheVariants.{Absent}
use Rattle.xa_types.specs.declared.ids.RequestId.{RequestId}
use Rattle.xa_types.specs.declared.ids.ServerId.{ServerId}
use Rattle.xa_cell.specs.declared.cells.Cells.{Cells}
use Rattle.xa_cell.specs.declared.tokens.Seat.{Seat}
use Rattle.xa_cell.specs.declared.tokens.Ticket.{Ticket}
use Rattle.xa_cell.specs.declared.view.Opening.{Opening}
use Rattle.xa_cell.specs.Known.{named, IsSeatOf, IsTicketOf}
use Rattle.xa_cell.specs.Places.{IsShut}
use Rattle.xa_queue.specs.declared.entry.Entry.{Entry}
use Rattle.xa_queue.specs.declared.queue.Taken.{Taken}
use Rattle.xa_queue.specs.declared.queue.Taken.TheVariants.{Request, Empty, Closed}
use Rattle.xa_queue.specs.Queue.{all_gone}
use Rattle.xa_held.specs.declared.cargo.Cargo.{Cargo}
use Rattle.xa_held.specs.declared.kept_queue.Setting.{Setting}
use Rattle.xa_held.specs.Kept.{Kept, IsRight, setting_of, notes_of}
use Rattle.xa_held.specs.Notes.{IsOther, gone_in, is_down_in}

-- the seat is of these cells, and has no place open
abbrev pub Sits : Cells ℕ → Seat ℕ → Type 0
Sits cells seat = IsSeatOf cells seat × IsShut seat

-- the ticket is of these cells, and names an opening for that request
pub record IsFor (cells : Cells ℕ) (request : RequestId) (ticket : Ticket ℕ) : Type 0 where
  pub table : IsTicketOf cells ticket
  pub opening : Opening
  pub names : named ticket ≡ opening ∷ []
  pub asked : opening.request ≡ request

abbrev pub HasTicket : Cells ℕ → Entry (Cargo ℕ) → Type 0
HasTicket cells entry = IsTicketOf cells entry.cargo.ticket

-- the entry may be put, with an event that has no data, as its caller sent it
pub record IsFit (cells : Cells ℕ) (entry : Entry (Cargo ℕ)) : Type 0 where
  pub right : IsRight cells entry
  pub least : 1 ≤ entry.priority
  pub most : entry.priority ≤ 100
  pub absent : entry.cargo.invocation.payload ≡ Absent
  pub first : entry.cargo.invocation.hop ≡ 0

-- what is handed out has a ticket of these cells
abbrev pub HandsOut : Cells ℕ → Taken (Cargo ℕ) → Type 0
HandsOut cells (Request out) = HasTicket cells out.entry
HandsOut cells Empty = Unit {0}
HandsOut cells Closed = Unit {0}

-- the queue with that number, where three may wait, of server 1, in a domain with one client
abbrev pub setting : Cells ℕ → ℕ → Setting ℕ
setting cells n = record { id = record { 0 = n }; capacity = 3; servers = record { 0 = 1 } ∷ []; first = record { 0 = 0 }; clients = 1; cells = cells }

-- the server at each queue
abbrev pub one : ServerId
one = record { 0 = 1 }

-- it is the queue with that number
abbrev pub IsOf : Cells ℕ → ℕ → Kept ℕ → Type 0
IsOf cells n kept = setting_of kept ≡ setting cells n

-- it is, and its server wasn't given up there
pub record Serves (cells : Cells ℕ) (n : ℕ) (kept : Kept ℕ) : Type 0 where
  pub is : IsOf cells n kept
  pub others : All (IsOther one) (notes_of kept)

-- it is, without a server, and down
pub record IsDown (cells : Cells ℕ) (n : ℕ) (kept : Kept ℕ) : Type 0 where
  pub is : IsOf cells n kept
  pub deserted : all_gone (gone_in (notes_of kept)) (setting cells n).servers ≡ true
  pub down : is_down_in n (notes_of kept) ≡ true

-- a step leaves the queue what it was: with its server, or down
pub record Keeps (cells : Cells ℕ) (n : ℕ) (old new : Kept ℕ) : Type 0 where
  pub is : IsOf cells n new
  pub up : Serves cells n old → Serves cells n new
  pub down : IsDown cells n old → IsDown cells n new
