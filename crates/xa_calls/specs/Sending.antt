-- How a caller's request goes from queue to queue (XATMI, TPESYSTEM and TPEBLOCK of tpcall; their order is this project's own).
use Rattle.std.specs.Prelude.{◌≡◌, ◌⊎◌, ℕ, ◌+◌, ◌<◌, true, List, take, length, Option, Some, None, IfSome, Result, Ok, Err, slice_get, Bool}
use Rattle.std.specs.List.{All, Contains}
use Rattle.xa_desk.specs.xa_types.declared.call.Ask.{Ask}
use Rattle.xa_desk.specs.xa_types.declared.ids.CallerId.{CallerId}
use Rattle.xa_desk.specs.xa_types.declared.ids.QueueId.{QueueId}
use Rattle.xa_desk.specs.xa_types.declared.row.Row.{Row}
use Rattle.xa_desk.specs.xa_types.Found.{FoundRows}
use Rattle.xa_desk.specs.xa_types.Setup.{capacity_of}
use Rattle.xa_desk.specs.xa_events.declared.event.Event.{Event}
use Rattle.xa_desk.specs.xa_events.declared.event.Event.TheVariants.{Accept}
use Rattle.xa_desk.specs.xa_events.Calls.{IsShutOut}
use Rattle.xa_desk.specs.xa_events.Queue.{is_down, is_closed, waiting}
use Rattle.xa_desk.specs.xa_queue.declared.entry.Entry.{Entry}
use Rattle.xa_desk.specs.xa_queue.declared.queue.Refusal.{Refusal}
use Rattle.xa_desk.specs.xa_queue.declared.queue.Refusal.TheVariants as refusals
use Rattle.xa_desk.specs.xa_worker.declared.work.Halt.{Halt}
use Rattle.xa_desk.specs.xa_worker.declared.work.Halt.TheVariants as halts
use Rattle.xa_desk.specs.xa_caller.Drafts.{Cargo}
use Rattle.xa_desk.specs.xa_caller.declared.outcomes.Why.{Why}
use Rattle.xa_desk.specs.xa_caller.declared.outcomes.Why.TheVariants as reasons
use Rattle.xa_desk.specs.declared.domain.Domain.{Domain}
use Rattle.xa_desk.specs.declared.desk.Desk.{Desk}
use Rattle.xa_desk.specs.Found.{SawAtQueue, SawItsOwnAt, HasFound, IsAimed, queue_in}
use Rattle.xa_calls.specs.Going.{GoesBy}
use Rattle.xa_calls.specs.Telling.{IsQuiet}

-- why no queue took a request, where that one was full, if one was
abbrev pub why_of : Option (QueueId × ℕ) → Why
why_of None = reasons.AllShut
why_of (Some (queue, n)) = reasons.Full queue n

-- which queue was full behind a queue that refused, or why nothing more is tried
abbrev pub full_by : QueueId → Refusal → Option (QueueId × ℕ) → Result (Option (QueueId × ℕ)) Halt
full_by queue (refusals.Full n) full = Ok (Some (queue, n))
full_by queue refusals.Down full = Ok full
full_by queue refusals.Closed full = Ok full
full_by queue (refusals.Worn stamp) full = Err (halts.Worn stamp)
full_by queue refusals.NoMemory full = Err halts.NoMemory

-- the event sends a request by the row at that attempt
abbrev pub IsBy : FoundRows → ℕ → Event → Type 0
IsBy found attempt event = (row : Row) × (slice_get found.rows attempt ≡ Some row) × (row.queue.0 ≡ queue_in event)

-- the queues of the rows that were tried took nothing: as NoneTakes says of all rows
pub record NoneTook (d : Domain) (rows tried : List Row) (full : Option (QueueId × ℕ)) (desk : Desk) : Type 0 where
  pub out : All (λ (row : Row). SawItsOwnAt d row.queue.0 desk (IsShutOut d.setup row.queue.0)) tried
  pub shut : full ≡ None → All (λ (row : Row). SawAtQueue d row.queue.0 desk (λ past. (is_down row.queue.0 past ≡ true) ⊎ (is_closed row.queue.0 past ≡ true))) tried
  pub filled : IfSome full (λ one. (0 < one.1) × (one.1 ≡ capacity_of d.setup one.0.0) × SawItsOwnAt d one.0.0 desk (λ past. length (waiting d.setup one.0.0 past) ≡ one.1)
      × ((row : Row) × Contains rows row × (row.queue ≡ one.0)))

-- a request is aimed by one of the rows that were found, of which so many were tried in vain
pub record IsTried (d : Domain) (ask : Ask) (tried : ℕ) (full : Option (QueueId × ℕ)) (entry : Entry Cargo) (event : Event) (desk : Desk) : Type 0 where
  pub found : HasFound d ask.service desk.reader.found desk
  pub aimed : IsAimed d desk.reader.found ask.payload entry event desk
  pub none : NoneTook d desk.reader.found.rows (take tried desk.reader.found.rows) full desk

-- the worker has made the call's request, and noted nothing and looked at the board no more
pub record IsOn (d : Domain) (apart : Bool) (ask : Ask) (first desk : Desk) : Type 0 where
  pub goes : GoesBy d (first.caller.op + 1) apart ask first desk
  pub op : desk.caller.op ≡ first.caller.op
  pub quiet : IsQuiet first desk
  pub reader : desk.reader ≡ first.reader
  pub board : desk.board ≡ first.board
