-- A server's worker at its desk, and what its steps leave (this project's own).
use Rattle.std.specs.Prelude.{◌≡◌, ℕ, ◌+◌, ◌<◌, ◌≤◌, ◌^◌, Bool, true, false, List, [], ◌∷◌, ◌++◌, length, Option, Some, None, IfSome, IsSome, IsSomeAnd, Result, Ok, Err}
use Rattle.std.specs.List.{All}
use Rattle.xa_server.specs.xa_types.declared.stamp.Stamp.{Stamp}
use Rattle.xa_server.specs.xa_types.declared.stamp.Worn.{Worn}
use Rattle.xa_server.specs.xa_types.declared.ids.RequestId.{RequestId}
use Rattle.xa_server.specs.xa_types.declared.setup.Setup.{Setup}
use Rattle.xa_server.specs.xa_types.Setup.{queue_of}
use Rattle.xa_server.specs.xa_events.declared.event.Event.{Event}
use Rattle.xa_server.specs.xa_events.declared.event.Event.TheVariants.{Take, Gone, Sweep}
use Rattle.xa_server.specs.xa_events.declared.event.Doing.TheVariants.{Busy}
use Rattle.xa_server.specs.xa_events.declared.event.Taken.{Taken}
use Rattle.xa_server.specs.xa_events.Answers.{reply_of}
use Rattle.xa_server.specs.xa_events.Cases.{IsShut}
use Rattle.xa_server.specs.xa_events.Request.{is_entry_of}
use Rattle.xa_server.specs.xa_events.Request.Settlement.{SweptAway}
use Rattle.xa_server.specs.xa_events.Words.{latest}
use Rattle.xa_server.specs.xa_events.Queue.{is_closed, is_down, waiting}
use Rattle.xa_server.specs.xa_events.Server.{is_gone, AllGone}
use Rattle.xa_server.specs.xa_events.State.{caller_of}
use Rattle.xa_server.specs.xa_events.Homes.Home.{BoardHome, QueueHome}
use Rattle.xa_server.specs.xa_stamp.Home.{last_stamp}
use Rattle.xa_server.specs.xa_worker.Crew.{IsOfDomain, no_stamp}
use Rattle.xa_server.specs.xa_worker.Seen.{past_in, IfNew, SawDeserted}
use Rattle.xa_server.specs.xa_cell.Known.{IsTicketOf}
use Rattle.xa_board.specs.declared.board.BoardRefused.{BoardRefused}
use Rattle.xa_board.specs.declared.board.BoardRefused.TheVariants as refusals
use Rattle.xa_server.specs.xa_held.Joins.{SawLeft}
use Rattle.xa_server.specs.xa_stamp.declared.home.Stamped.{Stamped}
use Rattle.xa_server.specs.xa_queue.declared.entry.Entry.{Entry}
use Rattle.xa_server.specs.xa_held.declared.cargo.Invocation.{Invocation}
use Rattle.xa_server.specs.xa_held.Kept.{IsRight, Brings}
use Rattle.xa_server.specs.xa_held.Notes.{IsOther, is_down_in}
use Rattle.xa_server.specs.xa_worker.Work.{seeing}
use Rattle.xa_server.specs.xa_worker.declared.work.Halt.{Halt}
use Rattle.xa_server.specs.xa_worker.declared.work.Halt.TheVariants as halts
use Rattle.xa_server.specs.xa_caller.declared.phase.Phase.TheVariants.{Idle}
use Rattle.xa_server.specs.xa_caller.Caller.{CallerState}
use Rattle.xa_server.specs.xa_caller.Drafts.{Cargo}
use Rattle.xa_server.specs.xa_caller.Serving.{noted_off}
use Rattle.xa_server.specs.declared.closing.Closing.{Closing}
use Rattle.xa_server.specs.declared.slot.ServerSlot.{ServerSlot}
use Rattle.xa_server.specs.declared.slot.Last.TheVariants.{Nothing as NoLast}
use Rattle.xa_server.specs.Doings.{life_in}
use Rattle.xa_server.specs.Slot.{Stands}
use Rattle.xa_server.specs.Told.{IsBacked}
use Rattle.xa_desk.specs.declared.domain.Domain.{Domain}
use Rattle.xa_desk.specs.declared.desk.Desk.{Desk}
use Rattle.xa_desk.specs.declared.serving.Took.{Took}
use Rattle.xa_desk.specs.declared.serving.Took.TheVariants as takes
use Rattle.xa_desk.specs.Whole.{Whole, entries_of}
use Rattle.xa_desk.specs.Deserted.{GaveUpLast}
use Rattle.xa_desk.specs.Desks.{GoesOn, queue_page}
use Rattle.xa_desk.specs.Found.{SawAtQueue, SawInHandAt}

-- if no request was sent to the queue while it waited there, what its events say of the request came last of its entries there
abbrev pub IsSentLast : Setup → ℕ → RequestId → Invocation → List Event → Type 0
IsSentLast setup queue request what past = IfNew setup queue (λ past. IsSomeAnd (latest (is_entry_of request) past) (Brings request what)) past

-- the take stands among these entries of the queue, and before it the request was sent there last for what its server is asked for
pub record WasSentFor (setup : Setup) (queue : ℕ) (entries : List Stamped) (t : Taken) (what : Invocation) : Type 0 where
  pub front : List Stamped
  pub stamp : Stamp
  pub rest : List Stamped
  pub parts : entries ≡ front ++ record { stamp = stamp; event = Take t } ∷ rest
  pub sent : IsSentLast setup queue t.request what (past_in front)

-- so it is in the end, whatever that is
abbrev pub IsSentFor : Domain → ℕ → Desk → Taken → Invocation → Type 0
IsSentFor d queue desk t what = (whole : Whole) → GoesOn d whole desk → WasSentFor d.setup queue (entries_of whole (QueueHome queue)) t what

-- the desk's server took the request of that entry, which says how it was sent to the queue last before the take, and so the worker saw it there, at its
-- take or later
pub record IsTaken (d : Domain) (queue : ℕ) (t : Taken) (desk : Desk) (entry : Entry Cargo) : Type 0 where
  pub its : t.request ≡ entry.request
  pub server : caller_of d.clients t.server.0 ≡ desk.caller.work.id.0
  pub sent : IsSentFor d queue desk t entry.cargo.invocation
  pub last : SawInHandAt d t.server.0 desk (λ past. IsSomeAnd (latest (is_entry_of entry.request) past) (Brings entry.request entry.cargo.invocation))

-- the desk is that of the server of the slot, whose queue has that number; the request in hand, if there is one, is to be answered by a cell of the
-- domain
pub record IsServing (d : Domain) (queue : ℕ) (slot : ServerSlot) (desk : Desk) : Type 0 where
  pub stands : Stands slot desk.caller.work
  pub idle : desk.caller.phase ≡ Idle
  pub its : queue_of d.setup slot.server.0 ≡ queue
  pub some : 0 < queue
  pub least : queue < length d.queues.items + 1
  pub left : slot.gone ≡ false → All (IsOther slot.server) (queue_page desk queue).own
  pub hand : IfSome slot.hand (IsRight d.cells)

-- the caller with an event of its server or of the domain, which was noted at another home
abbrev pub with_event : Stamp → Event → CallerState → CallerState
with_event = noted_off

-- the caller saw a stamp
abbrev pub Sees : CallerState → CallerState → Type 0
Sees old new = (seen : Stamp) × (new ≡ record old { work = seeing seen old.work })

-- stamps came to their end at the worker's or the queue's last one, which the worker saw
pub record IsAtEnd (worn : Worn) (old new : Desk) : Type 0 where
  pub last : worn.0.0 ≡ 2 ^ 63
  pub at : new.caller.work.stamp.0 ≡ 2 ^ 63
  pub caller : Sees old.caller new.caller

-- nothing waits at the queue, which isn't closed
abbrev pub HasNothing : Setup → ℕ → List Event → Type 0
HasNothing setup queue past = (waiting setup queue past ≡ []) × (is_closed queue past ≡ false)

-- what a take comes to
abbrev pub TakesAs : Domain → ℕ → Result Took Worn → ServerSlot → ServerSlot → Desk → Desk → Type 0
TakesAs d queue (Ok takes.Request) slot slot' old new = (entry : Entry Cargo) × (stamp : Stamp) × (k : ℕ) × (slot' ≡ record slot { doing = Busy (life_in slot.doing) entry.request; hand = Some entry; last = NoLast })
    × (old.caller.work.stamp.0 < stamp.0) × (new.caller ≡ with_event stamp (Take (record { request = entry.request; server = slot.server; generation = life_in slot.doing; k = k })) old.caller)
    × IsTaken d queue (record { request = entry.request; server = slot.server; generation = life_in slot.doing; k = k }) new entry
TakesAs d queue (Ok takes.Nothing) slot slot' old new = (slot' ≡ slot) × Sees old.caller new.caller × SawAtQueue d queue new (HasNothing d.setup queue)
TakesAs d queue (Ok takes.Closed) slot slot' old new = (slot' ≡ slot) × Sees old.caller new.caller × SawAtQueue d queue new (IsShut d.setup queue)
TakesAs d queue (Err worn) slot slot' old new = (slot' ≡ slot) × IsAtEnd worn old new

-- its worker gave the queue's last server up
abbrev pub GaveUp : Domain → ℕ → Desk → Type 0
GaveUp d queue desk = (whole : Whole) → GoesOn d whole desk → (stamp : Stamp) → desk.caller.work.stamp.0 < stamp.0 → GaveUpLast d.setup queue (entries_of whole (QueueHome queue)) desk.caller.work.own stamp

-- the desk's pass saw each server of the queue given up, the last one by its own worker
pub record IsDeserted (d : Domain) (queue : ℕ) (desk : Desk) : Type 0 where
  pub left : SawLeft d.setup queue desk.caller.work.stamp (queue_page desk queue)
  pub last : GaveUp d queue desk

-- behind that it found no row of the queue on the board, and whatever stands there in the end came later
abbrev pub IsCleared : Domain → ℕ → Desk → Type 0
IsCleared d queue desk = (whole : Whole) → GoesOn d whole desk → (stamp : Stamp) → desk.caller.work.stamp.0 < stamp.0
    → SawDeserted d.setup queue (entries_of whole BoardHome) (entries_of whole (QueueHome queue)) stamp

-- the desk's pass saw the queue go down, whose last server its own worker gave up
pub record IsFallen (d : Domain) (queue : ℕ) (desk : Desk) : Type 0 where
  pub down : is_down_in queue (queue_page desk queue).seen ≡ true
  pub last : GaveUp d queue desk

-- the server is given up, and another server of the queue is left
abbrev pub LeftOthers : Domain → ℕ → ℕ → List Event → Type 0
LeftOthers d queue server past = (is_gone server past ≡ true) × (AllGone d.setup queue past → ⊥)

-- the server was given up at its queue, and each other server of the queue before, or the desk saw that one is left there
abbrev pub LeavesAs : Domain → ℕ → Result Bool Worn → ServerSlot → ServerSlot → Desk → Desk → Type 0
LeavesAs d queue (Ok last) slot slot' old new = (slot' ≡ record slot { gone = true }) × ((stamp : Stamp) × (old.caller.work.stamp.0 < stamp.0) × (new.caller ≡ with_event stamp (Gone slot.server) old.caller))
    × (last ≡ true → IsDeserted d queue new) × (last ≡ false → SawAtQueue d queue new (LeftOthers d queue slot.server.0))
LeavesAs d queue (Err worn) slot slot' old new = (slot' ≡ slot) × IsAtEnd worn old new

-- the worker noted events of the domain at most, and its caller is else as it was
pub record OfDomain (old new : Desk) : Type 0 where
  pub more : List Stamped
  pub own : new.caller.work.own ≡ old.caller.work.own ++ more
  pub theirs : All (λ (x : Stamped). IsOfDomain x.event) more
  pub rest : new.caller ≡ record old.caller { work = record old.caller.work { stamp = new.caller.work.stamp; own = new.caller.work.own } }

-- memory ran out, or stamps came to their end, which the worker saw
abbrev pub IsHaltNear : Desk → Halt → Type 0
IsHaltNear desk halts.NoMemory = Unit {0}
IsHaltNear desk (halts.Worn stamp) = (stamp.0 ≡ 2 ^ 63) × (desk.caller.work.stamp.0 ≡ 2 ^ 63)

-- the stamp that was seen there: the last one, or where stamps came to their end that
abbrev pub seen_by : Halt → Stamp → Stamp
seen_by halts.NoMemory last = last
seen_by (halts.Worn stamp) last = stamp

-- how a worker halts where a row that stands isn't withdrawn
abbrev pub halt_by : BoardRefused → Halt
halt_by (refusals.Worn stamp) = halts.Worn stamp
halt_by refused = halts.NoMemory

-- what a closing tells is backed by what the worker noted, and its ticket is of the domain's cells
pub record IsToTell (d : Domain) (desk : Desk) (closing : Closing) : Type 0 where
  pub backed : IsBacked desk.caller.work.own closing
  pub ticket : IfSome closing.ticket (IsTicketOf d.cells)
  pub reached : closing.stamp.0 ≤ last_stamp no_stamp desk.caller.work.own
  pub noted : IsSome closing.answer → desk.caller.work.own ≡ [] → ⊥

-- the queue is down and nothing waits there
abbrev pub IsSwept : Domain → ℕ → List Event → Type 0
IsSwept d queue past = (is_down queue past ≡ true) × (waiting d.setup queue past ≡ [])

-- the request that is closed was swept from that queue, which the worker noted, and its caller is to be told so
pub record Sweeps (queue : ℕ) (closing : Closing) (old new : Desk) : Type 0 where
  pub request : RequestId
  pub its : closing.request ≡ Some request
  pub stamp : Stamp
  pub noted : new.caller ≡ with_event stamp (Sweep (record { request = request; queue = record { 0 = queue } })) old.caller
  pub answer : closing.answer ≡ Some (reply_of SweptAway)

-- a request that waited was swept, and its caller is to be told; or the desk saw that none waits
abbrev pub SweepsAs : Domain → ℕ → Result (Option Closing) Worn → Desk → Desk → Type 0
SweepsAs d queue (Ok None) old new = Sees old.caller new.caller × SawAtQueue d queue new (IsSwept d queue)
SweepsAs d queue (Ok (Some closing)) old new = OfDomain old new × IsToTell d new closing × IsSome closing.ticket × Sweeps queue closing old new
SweepsAs d queue (Err worn) old new = IsAtEnd worn old new
