-- How a server's worker passes the request in hand on (after Tuxedo, tpforward; that its worker notes it is this project's own).
use Rattle.std.specs.Prelude.{◌≡◌, ℕ, true, List, [], ◌∷◌, ◌++◌, take, Option, Some, None, IfSome, Result, Ok, Err, slice_get}
use Rattle.std.specs.List.{All}
use Rattle.xa_desk.specs.xa_types.declared.data.Data.{Data}
use Rattle.xa_desk.specs.xa_types.declared.row.Row.{Row}
use Rattle.xa_desk.specs.xa_types.declared.stamp.Stamp.{Stamp}
use Rattle.xa_desk.specs.xa_types.Setup.{queue_of}
use Rattle.xa_desk.specs.xa_events.declared.event.Doing.TheVariants.{Idle}
use Rattle.xa_desk.specs.xa_events.declared.event.Event.{Event}
use Rattle.xa_desk.specs.xa_events.Calls.{IsShutOut}
use Rattle.xa_desk.specs.xa_pipe.Following.{is_of}
use Rattle.xa_desk.specs.xa_pipe.Life.{IsForwarded}
use Rattle.xa_desk.specs.xa_queue.declared.queue.Refusal.{Refusal}
use Rattle.xa_desk.specs.xa_queue.declared.queue.Refusal.TheVariants as refusals
use Rattle.xa_desk.specs.xa_worker.Work.{theirs}
use Rattle.xa_desk.specs.xa_worker.declared.work.Halt.{Halt}
use Rattle.xa_desk.specs.xa_worker.declared.work.Halt.TheVariants as halts
use Rattle.xa_desk.specs.xa_server.declared.closing.Closing.{Closing}
use Rattle.xa_desk.specs.xa_server.declared.slot.ServerSlot.{ServerSlot}
use Rattle.xa_desk.specs.xa_server.Doings.{life_in}
use Rattle.xa_desk.specs.declared.domain.Domain.{Domain}
use Rattle.xa_desk.specs.declared.desk.Desk.{Desk}
use Rattle.xa_desk.specs.Halting.{IsHaltAt}
use Rattle.xa_desk.specs.Found.{SawItsOwnAt, HasFound}
use Rattle.xa_desk.specs.Passing.{IsPassing, forwarded_to}
use Rattle.xa_desk.specs.Serving.{IsToTell}
use Rattle.xa_server_worker.specs.declared.passing.Tried.{Tried}
use Rattle.xa_server_worker.specs.declared.passing.Tried.TheVariants as tries
use Rattle.xa_server_worker.specs.Reasons.{ShowsReason}
use Rattle.xa_server_worker.specs.Steps.{Steps, Serves}

-- the number of the queue at which the slot's server is
abbrev pub its_queue : Domain → ServerSlot → ℕ
its_queue d slot = queue_of d.setup slot.server.0

-- how the worker halts by what a queue refused for, if it does
abbrev pub halt_by : Refusal → Option Halt
halt_by (refusals.Worn stamp) = Some (halts.Worn stamp)
halt_by refusals.NoMemory = Some halts.NoMemory
halt_by why = None

-- the event sends a request by the row at that attempt
abbrev pub IsBy : Desk → ℕ → Event → Type 0
IsBy desk attempt event = (row : Row) × (slice_get desk.reader.found.rows attempt ≡ Some row) × (row.queue.0 ≡ forwarded_to event)

-- the queues of these rows took nothing, as was seen since the worker's last event there
abbrev pub TookNothing : Domain → Desk → List Row → Type 0
TookNothing d desk rows = All (λ (row : Row). SawItsOwnAt d row.queue.0 desk (IsShutOut d.setup row.queue.0)) rows

-- so it was with as many of the rows that were found, from the first
abbrev pub WereTried : Domain → Desk → ℕ → Type 0
WereTried d desk tried = TookNothing d desk (take tried desk.reader.found.rows)

-- the worker noted nothing, told nobody and looked up nothing
pub record IsBack (d : Domain) (old new : Desk) : Type 0 where
  pub steps : Steps d [] old new
  pub own : new.caller.work.own ≡ old.caller.work.own
  pub seat : new.caller.seat ≡ old.caller.seat
  pub reader : new.reader ≡ old.reader
  pub found : (service : List ℕ) → HasFound d service old.reader.found old → HasFound d service new.reader.found new

-- the server is done with its request by that event of its life, which its worker noted, and is idle
pub record IsDoneBy (d : Domain) (queue : ℕ) (event : Event) (slot slot' : ServerSlot) (old new : Desk) : Type 0 where
  pub serves : Serves d queue (event ∷ []) slot slot' old new
  pub its : is_of slot.server.0 (life_in slot.doing).0 event ≡ true
  pub idle : slot'.doing ≡ Idle (life_in slot.doing)
  pub stamp : Stamp
  pub noted : new.caller.work.own ≡ old.caller.work.own ++ record { stamp = stamp; event = event } ∷ []
  pub seat : new.caller.seat ≡ old.caller.seat

-- a forward to that service with that data is over: the request went on, or it ended as a forward that failed, and then its caller is to be told
pub record Passes (d : Domain) (queue : ℕ) (service : List ℕ) (payload : Data) (closing : Option Closing) (slot slot' : ServerSlot) (old new : Desk) : Type 0 where
  pub event : Event
  pub done : IsDoneBy d queue event slot slot' old new
  pub by : IsForwarded (ShowsReason d new) service payload event (theirs old.caller.work)
  pub to_tell : IfSome closing (IsToTell d new)

-- at a halt it is in hand still, and nothing was noted
pub record Keeps (d : Domain) (queue : ℕ) (halt : Halt) (slot slot' : ServerSlot) (old new : Desk) : Type 0 where
  pub serves : Serves d queue [] slot slot' old new
  pub does : slot'.doing ≡ slot.doing
  pub own : new.caller.work.own ≡ old.caller.work.own
  pub seat : new.caller.seat ≡ old.caller.seat
  pub halts : IsHaltAt new halt

-- what a forward to that service with that data comes to
abbrev pub PassesAs : Domain → ℕ → List ℕ → Data → Result (Option Closing) Halt → ServerSlot → ServerSlot → Desk → Desk → Type 0
PassesAs d queue service payload (Ok closing) slot slot' old new = Passes d queue service payload closing slot slot' old new
PassesAs d queue service payload (Err halt) slot slot' old new = Keeps d queue halt slot slot' old new

-- what one attempt comes to: that, or the request is out still, with the same data, to be put by that event, which is by the row at the next attempt
abbrev pub TriedAs : Domain → ℕ → List ℕ → Data → ℕ → Tried → ServerSlot → ServerSlot → Desk → Desk → Type 0
TriedAs d queue service payload next (tries.Passed closing) slot slot' old new = Passes d queue service payload closing slot slot' old new
TriedAs d queue service payload next (tries.Halted halt) slot slot' old new = Keeps d queue halt slot slot' old new
TriedAs d queue service payload next (tries.Again entry event) slot slot' old new =
    IsPassing d queue entry event slot' new × (slot' ≡ slot) × IsBack d old new × (entry.cargo.invocation.payload ≡ payload) × IsBy new next event × WereTried d new next
