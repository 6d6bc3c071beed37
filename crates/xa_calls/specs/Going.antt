-- What a caller's calls leave at its desk (this project's own).
use Rattle.std.specs.Prelude.{◌≡◌, ℕ, ◌+◌, ◌≤◌, Bool, true, false, Option, Some, None, Result, Ok, Err}
use Rattle.xa_desk.specs.xa_types.declared.call.Ask.{Ask}
use Rattle.xa_desk.specs.xa_types.declared.call.CallFlags.{CallFlags}
use Rattle.xa_desk.specs.xa_types.declared.call.Op.{Op}
use Rattle.xa_desk.specs.xa_types.declared.call.Op.TheVariants.{Call, Acall, Get, GetAny, Cancel, Priority, Advertise, Unadvertise, Tick}
use Rattle.xa_desk.specs.xa_types.declared.data.Kind.{Kind}
use Rattle.xa_desk.specs.xa_types.declared.ids.QueueId.{QueueId}
use Rattle.xa_desk.specs.xa_events.Caller.{is_client}
use Rattle.xa_desk.specs.xa_lock.Pages.{StartsWith}
use Rattle.xa_desk.specs.xa_cell.Changes.{looked}
use Rattle.xa_desk.specs.xa_cell.Known.{known}
use Rattle.xa_desk.specs.xa_cell.Views.{at}
use Rattle.xa_desk.specs.xa_caller.declared.outcomes.Step.{Step}
use Rattle.xa_desk.specs.xa_caller.declared.outcomes.Step.TheVariants as steps
use Rattle.xa_desk.specs.xa_caller.declared.outcomes.Stop.{Stop}
use Rattle.xa_desk.specs.xa_caller.declared.outcomes.Stop.TheVariants as stops
use Rattle.xa_desk.specs.xa_caller.declared.phase.Open.{Open}
use Rattle.xa_desk.specs.xa_caller.declared.phase.Phase.TheVariants.{Idle, Sent}
use Rattle.xa_desk.specs.xa_caller.Phases.{IsSent, IsPrepared}
use Rattle.xa_desk.specs.declared.domain.Domain.{Domain}
use Rattle.xa_desk.specs.declared.desk.Desk.{Desk}
use Rattle.xa_desk.specs.declared.stopped.Stopped.{Stopped}
use Rattle.xa_desk.specs.declared.stopped.Stopped.TheVariants as ends
use Rattle.xa_desk.specs.Desks.{IsDesk, Leads, board_page}
use Rattle.xa_desk.specs.Halting.{IsStopAt}
use Rattle.xa_desk.specs.Looks.{LookShowed}
use Rattle.xa_desk.specs.Steps.{FitsOp, ask_by}
use Rattle.xa_calls.specs.Resting.{NotedOn, SawFull}
use Rattle.xa_calls.specs.declared.sending.Tried.{Tried}
use Rattle.xa_calls.specs.declared.sending.Tried.TheVariants as attempts

-- ---- a caller's desk

-- between its calls: op of them were made
pub record IsReady (d : Domain) (op : ℕ) (desk : Desk) : Type 0 where
  pub is : IsDesk d desk
  pub idle : desk.caller.phase ≡ Idle
  pub made : desk.caller.op ≡ op

-- behind the request of its call with that number, whose answer is still to come
pub record IsWaiting (d : Domain) (op : ℕ) (desk : Desk) : Type 0 where
  pub is : IsDesk d desk
  pub sent : IsSent desk.caller.phase
  pub made : desk.caller.op ≡ op

-- no request of it is out to be put on a queue, so that it may be given up
abbrev pub IsOut : Desk → Type 0
IsOut desk = IsPrepared desk.caller.phase → ⊥

-- it stopped for that reason, and may be given up
abbrev pub IsStopped : Desk → Stopped → Type 0
IsStopped desk stopped = IsOut desk × IsStopAt desk stopped

-- ---- how it goes on

-- the desk is the same worker's, a server's with room for the two events that end a life, where it had that
pub record IsSame (old new : Desk) : Type 0 where
  pub id : new.caller.work.id ≡ old.caller.work.id
  pub clients : new.caller.work.clients ≡ old.caller.work.clients
  pub room : is_client old.caller.work.clients old.caller.work.id.0 ≡ false → 2 ≤ old.caller.work.room → 2 ≤ new.caller.work.room

-- its seat filled no cell
abbrev pub FillsNone : Desk → Desk → Type 0
FillsNone old new = (k : ℕ) → (at k (known new.caller.seat)).filled ≡ (at k (known old.caller.seat)).filled

-- the worker went on by its tpacall or tpcall with that number, of which each event that it noted is one
pub record GoesBy (d : Domain) (number : ℕ) (apart : Bool) (ask : Ask) (old new : Desk) : Type 0 where
  pub leads : Leads d old new
  pub fits : FitsOp d number (ask_by apart ask) old new
  pub same : IsSame old new
  pub fills : FillsNone old new

-- so it did by any call, from its begin: a version of the board that such an event names was shown by a look of this call, and a queue that it names was
-- full as the pass saw it in this call
pub record PerformsBy (d : Domain) (number : ℕ) (op : Op) (old new : Desk) : Type 0 where
  pub leads : Leads d old new
  pub fits : FitsOp d number op old new
  pub same : IsSame old new
  pub fills : FillsNone old new
  pub board : StartsWith (board_page new).seen (board_page old).seen
  pub looked : NotedOn (LookShowed old new) (SawFull d old new) old.caller.work.own new.caller.work.own

-- without a look at the board: a version that such an event names is that of what the reader had found, and a queue that it names was full in this way
pub record TriesBy (Full : QueueId × ℕ → Type 0) (old new : Desk) : Type 0 where
  pub board : new.board ≡ old.board
  pub found : NotedOn (λ version. version ≡ old.reader.found.version) Full old.caller.work.own new.caller.work.own

-- a look of this call found the cell of the request pending, and nothing else came of it
pub record FoundPending (old new : Desk) : Type 0 where
  pub sent : Open
  pub phase : old.caller.phase ≡ Sent sent
  pub looked_at : known new.caller.seat ≡ looked sent.place.cell 1 (known old.caller.seat)
  pub rest : new ≡ record old { caller = record old.caller { seat = new.caller.seat } }

-- what a look for the answer leaves: it was told, or is still to come
abbrev pub ToldAs : Domain → ℕ → Result Bool Stopped → Desk → Type 0
ToldAs d op (Ok true) desk = IsReady d op desk
ToldAs d op (Ok false) desk = IsWaiting d op desk
ToldAs d op (Err stopped) desk = IsStopped desk stopped

-- behind the request of its call with that number: a tpacall is over, and the answer of a tpcall is still to come
abbrev pub IsSentBy : Bool → Domain → ℕ → Desk → Type 0
IsSentBy true d op desk = IsReady d op desk
IsSentBy false d op desk = IsWaiting d op desk

-- what an attempt to send leaves: the request is out, or the call was refused, or nothing was sent, since all queues that are up are full
abbrev pub TriedAs : Bool → Domain → ℕ → Result Tried Stopped → Desk → Type 0
TriedAs apart d op (Ok attempts.Sent) desk = IsSentBy apart d op desk
TriedAs apart d op (Ok attempts.Refused) desk = IsReady d op desk
TriedAs apart d op (Ok attempts.Full) desk = (before : ℕ) × (before + 1 ≡ op) × IsReady d before desk
TriedAs apart d op (Err stopped) desk = IsStopped desk stopped

-- what sending comes to: the request is out, or the call was refused
abbrev pub SentAs : Bool → Domain → ℕ → Result Bool Stopped → Desk → Type 0
SentAs apart d op (Ok true) desk = IsSentBy apart d op desk
SentAs apart d op (Ok false) desk = IsReady d op desk
SentAs apart d op (Err stopped) desk = IsStopped desk stopped

-- what looks for the answers of descriptors leave: the call with that number is over, or there is none so far
abbrev pub GotAs : Domain → ℕ → ℕ → Result Bool Stopped → Desk → Type 0
GotAs d before op (Ok true) desk = IsReady d op desk
GotAs d before op (Ok false) desk = IsReady d before desk
GotAs d before op (Err stopped) desk = IsStopped desk stopped

-- ---- what one outcome says by another

abbrev pub told_by : Step → Result Bool Stopped
told_by (steps.Told stamp) = Ok true
told_by steps.Wait = Ok false
told_by (steps.Halt halt) = Err (ends.Here halt)
told_by steps.Halted = Err ends.Elsewhere

abbrev pub tried_by : Step → Result Tried Stopped
tried_by (steps.Told stamp) = Ok attempts.Refused
tried_by steps.Wait = Ok attempts.Full
tried_by (steps.Halt halt) = Err (ends.Here halt)
tried_by steps.Halted = Err ends.Elsewhere

abbrev pub refused_by : Stop → Result Tried Stopped
refused_by (stops.Refused stamp) = Ok attempts.Refused
refused_by (stops.Halt halt) = Err (ends.Here halt)

-- ---- its calls

-- a tpcall, a client's tpacall that wants a reply, a tpgetrply or a tpcancel, a call that sets the priority of the next request, or one that would change
-- the board or the clock
abbrev pub IsCall : Bool → Op → Type 0
IsCall client (Call ask) = Unit {0}
IsCall client (Acall ask) = (client ≡ true) × (ask.flags.no_reply ≡ false)
IsCall client (Get descriptor flags expect) = Unit {0}
IsCall client (GetAny flags expect) = Unit {0}
IsCall client (Cancel descriptor) = Unit {0}
IsCall client (Priority absolute amount) = Unit {0}
IsCall client (Advertise service routine) = Unit {0}
IsCall client (Unadvertise service) = Unit {0}
IsCall client (Tick n) = Unit {0}
IsCall client op = ⊥

-- a tpgetrply of that descriptor, or of any
abbrev pub get_by : Option ℕ → CallFlags → Option Kind → Op
get_by (Some descriptor) flags expect = Get descriptor flags expect
get_by None flags expect = GetAny flags expect
