-- A server that forwards its request: with a life that waits for one, with one in hand, with one that is out, and behind it.
use Rattle.std.specs.Prelude.{◌≡◌, ◌⊎◌, ℕ, ◌≤◌, true, List, [], ◌∷◌, Option, Some, None, IfSome}
use Rattle.xa_types.specs.declared.setup.Setup.{Setup}
use Rattle.xa_types.specs.Found.{FoundRows}
use Rattle.xa_types.specs.Name.{is_name}
use Rattle.xa_events.specs.declared.event.Doing.TheVariants.{Off}
use Rattle.xa_events.specs.declared.event.Event.{Event}
use Rattle.xa_stamp.specs.Home.{last_stamp}
use Rattle.xa_worker.specs.Crew.{no_stamp}
use Rattle.xa_queue.specs.declared.entry.Entry.{Entry}
use Rattle.xa_cell.specs.declared.cells.Cells.{Cells}
use Rattle.xa_cell.specs.declared.tokens.Seat.{Seat}
use Rattle.xa_cell.specs.declared.tokens.Ticket.{Ticket}
use Rattle.xa_cell.specs.Known.{known, IsSeatOf, IsTicketOf}
use Rattle.xa_cell.specs.Places.{OpenAre}
use Rattle.xa_caller.specs.declared.cargo.Filling.{Filling}
use Rattle.xa_caller.specs.declared.phase.Phase.TheVariants.{Idle}
use Rattle.xa_caller.specs.Caller.{CallerState, AreRowsOf}
use Rattle.xa_caller.specs.Drafts.{Cargo}
use Rattle.xa_server.specs.declared.closing.Closing.{Closing}
use Rattle.xa_server.specs.declared.forwarding.Forwarding.{Forwarding}
use Rattle.xa_server.specs.declared.forwarding.Forwarding.TheVariants.{On, Failed}
use Rattle.xa_server.specs.declared.slot.ServerSlot.{ServerSlot}
use Rattle.xa_server.specs.Doings.{IsBusy, IsIdle}
use Rattle.xa_server.specs.Forwarding.{IsOnWay}
use Rattle.xa_server.specs.Slot.{Stands}

-- the caller is of that setup, its seat of these cells, it has no call under way, and it read no version past 256
pub record IsBetween (setup : Setup) (cells : Cells Filling) (c : CallerState) : Type 0 where
  pub its : c.work.setup ≡ setup
  pub idle : c.phase ≡ Idle
  pub seat : IsSeatOf cells c.seat
  pub low : c.least ≤ 256

-- a life waits for a request
pub record Waits (setup : Setup) (cells : Cells Filling) (slot : ServerSlot) (c : CallerState) : Type 0 where
  pub between : IsBetween setup cells c
  pub stands : Stands slot c.work
  pub free : IsIdle slot.doing

-- a request is in hand
pub record Holds (setup : Setup) (cells : Cells Filling) (slot : ServerSlot) (c : CallerState) : Type 0 where
  pub between : IsBetween setup cells c
  pub stands : Stands slot c.work
  pub busy : IsBusy slot.doing
  pub ticket : IfSome slot.hand (λ entry. IsTicketOf cells entry.cargo.ticket)

-- the request is out, to be put on a queue by that event
pub record IsOut (setup : Setup) (cells : Cells Filling) (entry : Entry Cargo) (event : Event) (slot : ServerSlot) (c : CallerState) : Type 0 where
  pub between : IsBetween setup cells c
  pub way : IsOnWay entry event slot c
  pub ticket : IsTicketOf cells entry.cargo.ticket

-- nothing is in hand: a life waits, or none is under way
pub record IsSettled (cells : Cells Filling) (slot : ServerSlot) (c : CallerState) : Type 0 where
  pub stands : Stands slot c.work
  pub doing : IsIdle slot.doing ⊎ (slot.doing ≡ Off)
  pub free : slot.hand ≡ None
  pub idle : c.phase ≡ Idle
  pub seat : IsSeatOf cells c.seat

-- so it is, and the caller of the request is to be told that, no later than the server's last event
pub record IsOver (cells : Cells Filling) (closing : Closing) (slot : ServerSlot) (c : CallerState) : Type 0 where
  pub settled : IsSettled cells slot c
  pub ticket : IfSome closing.ticket (IsTicketOf cells)
  pub later : closing.stamp.0 ≤ last_stamp no_stamp c.work.own

abbrev pub LeavesOut : Setup → Cells Filling → Forwarding → ServerSlot → CallerState → Type 0
LeavesOut setup cells (On entry event) slot c = IsOut setup cells entry event slot c
LeavesOut setup cells (Failed closing) slot c = IsOver cells closing slot c

-- version 256 of the board has these rows of a service, which is the one that is named, if that is a name
pub record AreFor (setup : Setup) (named : List ℕ) (found : FoundRows) : Type 0 where
  pub version : found.version ≡ 256
  pub service : List ℕ
  pub rows : AreRowsOf setup service found.rows
  pub same : is_name named ≡ true → service ≡ named

-- ---- its caller

-- one place of the seat is open, at that cell
abbrev pub IsWaiting : ℕ → Seat Filling → Type 0
IsWaiting cell seat = OpenAre ((cell, record { caller = record { 0 = 1 }; number = 1 }) ∷ []) (known seat)

abbrev pub ticket_in : Option (Entry Cargo) → Option (Ticket Filling)
ticket_in None = None
ticket_in (Some entry) = Some entry.cargo.ticket

-- it closes the request that was in hand, no later than the caller's last event
pub record IsClosed (hand : Option (Entry Cargo)) (closing : Closing) (c : CallerState) : Type 0 where
  pub ticket : closing.ticket ≡ ticket_in hand
  pub later : closing.stamp.0 ≤ last_stamp no_stamp c.work.own
