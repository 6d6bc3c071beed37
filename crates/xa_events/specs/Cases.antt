-- When an event may come next. A case has three parts: what is asked of the events of its own home (Home), what is asked of those of its own
-- worker (Worker), and which events of other homes stand before (Before). Where a case names no other source its rule is this project's own.
-- A kind of which a part is ⊥ isn't built yet: it has no case. `Unit` is where nothing is asked.
use Rattle.std.specs.Prelude.{◌≡◌, ℕ, ℤ, ◌+◌, ◌-◌, ◌^◌, ◌==◌, ◌&&◌, ◌<◌, ◌≤◌, ◌⊎◌, Bool, true, false, List, [], length, Option, Some, None, IsSome, IsSomeAnd, slice_get, pos, nat_lt, if◌then◌else◌, IfSome}
use Rattle.std.specs.List.{list_any, list_all}
use Rattle.xa_types.specs.declared.setup.Setup.{Setup}
use Rattle.xa_types.specs.declared.ids.RequestId.{RequestId}
use Rattle.xa_types.specs.declared.row.Row.{Row}
use Rattle.xa_types.specs.declared.data.Data.{Data}
use Rattle.xa_types.specs.declared.ids.CallerId.{CallerId}
use Rattle.xa_types.specs.declared.call.Mode.{Mode}
use Rattle.xa_types.specs.declared.call.Mode.TheVariants.{Reply, NoReply, ConvReceives, ConvSends}
use Rattle.xa_types.specs.declared.fault.Fault.{Fault}
use Rattle.xa_types.specs.declared.fault.Fault.TheVariants.{Inval, NoEnt, IType, BadDesc, Limit, Block, Time, Proto, System, Match, Event as EventFault}
use Rattle.xa_types.specs.Kind.{kind_of, is_sound, is_accepted}
use Rattle.xa_types.specs.Priority.{priority_of}
use Rattle.xa_types.specs.Rows.{Put, configured, row_of, row_for}
use Rattle.xa_types.specs.Setup.{queue_of, capacity_of}
use Rattle.xa_events.specs.declared.event.Event.{Event}
use Rattle.xa_events.specs.declared.event.Event.TheVariants.{Advertise, Withdraw, Accept, Take, Forward, Sweep, Gone, Down, Close, Tick, Start, StartFailed, End, Stop, Answer, Cancel, Lapse, Refuse, NotYet, Leave, Send, Receive, Break, Priority}
use Rattle.xa_events.specs.declared.event.Advertised.{Advertised}
use Rattle.xa_events.specs.declared.event.Withdrawn.{Withdrawn}
use Rattle.xa_events.specs.declared.event.Accepted.{Accepted}
use Rattle.xa_events.specs.declared.event.Taken.{Taken}
use Rattle.xa_events.specs.declared.event.Forwarded.{Forwarded}
use Rattle.xa_events.specs.declared.event.Swept.{Swept}
use Rattle.xa_events.specs.declared.event.Started.{Started}
use Rattle.xa_events.specs.declared.event.Ended.{Ended}
use Rattle.xa_events.specs.declared.event.Stopped.{Stopped}
use Rattle.xa_events.specs.declared.event.Replied.{Replied}
use Rattle.xa_events.specs.declared.event.Refused.{Refused}
use Rattle.xa_events.specs.declared.event.Cancelled.{Cancelled}
use Rattle.xa_events.specs.declared.event.Lapsed.{Lapsed}
use Rattle.xa_events.specs.declared.event.Unready.{Unready}
use Rattle.xa_events.specs.declared.event.Ticked.{Ticked}
use Rattle.xa_events.specs.declared.event.Prioritized.{Prioritized}
use Rattle.xa_events.specs.declared.event.Sent.{Sent}
use Rattle.xa_events.specs.declared.event.Received.{Received}
use Rattle.xa_events.specs.declared.event.Broken.{Broken}
use Rattle.xa_events.specs.declared.event.Item.{Item}
use Rattle.xa_events.specs.declared.event.Evidence.{Evidence}
use Rattle.xa_events.specs.declared.event.Evidence.TheVariants.{Argument, Version, AllDown, Descriptor, Cells, Clock, Queue, Pool, Deadline, Role, Connections, Rows, Control, Routine, NoRow, Conversation, Ended as EndedEvidence}
use Rattle.xa_events.specs.declared.event.Outcome.{Outcome}
use Rattle.xa_events.specs.declared.event.Outcome.TheVariants.{Returned, Failed, BadReturn, Died, Starved}
use Rattle.xa_events.specs.declared.event.StopCause.{StopCause}
use Rattle.xa_events.specs.declared.event.StopCause.TheVariants.{Shutdown, Exit, EndOfInput, ReadFault, WriteFault, BadBytes, OutOfTurn, Starved as StarvedStop}
use Rattle.xa_events.specs.declared.event.Doing.TheVariants.{Off, Idle, Busy, Dying}
use Rattle.xa_events.specs.Words.{count, has, Was}
use Rattle.xa_events.specs.State.{State, caller_of}
use Rattle.xa_events.specs.Homes.{HeldSince}
use Rattle.xa_events.specs.Board.{published, boot, rows_of_version}
use Rattle.xa_events.specs.Queue.{waiting, takes, is_down, is_closed}
use Rattle.xa_events.specs.Server.{doing, starts, is_gone, was_shut_down, last_outcome, may_start, AllGone, in_hand}
use Rattle.xa_events.specs.Caller.{last_op, just_accepted, accepted, open_descriptors, unanswered, version_of, least_version, tick_floor, is_conversational, next_priority, has_left, is_client, is_active, may_give_up, AllLeft, descriptor_limit}
use Rattle.xa_events.specs.Request.{is_forward_of, SentAs, sent_as, WasSettled}
use Rattle.xa_events.specs.Clock.{is_shown, now}
use Rattle.xa_events.specs.Conversation.{Side, connections, side_of, is_begun, is_hand_closed, ControlIs, NextIs, EndedIs}
use Rattle.xa_events.specs.Conversation.Side.{Originator, Service}
use Rattle.xa_events.specs.Answers.{IsAnswerTo}

-- ---- Advertise and Withdraw (XATMI, tpadvertise and tpunadvertise; that the domain advertises at the boot, and withdraws where a queue's last server
-- is gone, is this project's own)

-- so many rows may the board have (this project's own)
abbrev pub row_limit : ℕ
row_limit = 256

-- the rows that stand
abbrev pub rows_now : Setup → List Event → List Row
rows_now setup past = rows_of_version setup past (published past)

-- the boot advertises the configured services in order
pub record BootHome (setup : Setup) (a : Advertised) (past : List Event) : Type 0 where
  pub domain : a.by.0 ≡ 0
  pub booting : slice_get (configured setup) (published past) ≡ Some (Put a.service a.queue.0 a.routine)
  pub version : a.version ≡ published past + 1

-- a server advertises: no row of the service stands on the queue, or one with the same routine; and the board isn't full, or the row stands
pub record PutHome (setup : Setup) (a : Advertised) (past : List Event) : Type 0 where
  pub server : 0 < a.by.0
  pub same : IfSome (row_of a.service a.queue.0 (rows_now setup past)) (λ row. row.routine ≡ a.routine)
  pub room : (length (rows_now setup past) < row_limit) ⊎ IsSome (row_of a.service a.queue.0 (rows_now setup past))
  pub version : a.version ≡ published past + 1

abbrev pub AdvertiseHome : Setup → Advertised → List Event → Type 0
AdvertiseHome setup a past = BootHome setup a past ⊎ PutHome setup a past

pub record WithdrawHome (setup : Setup) (w : Withdrawn) (past : List Event) : Type 0 where
  pub stands : IsSome (row_of w.service w.queue.0 (rows_now setup past))
  pub version : w.version ≡ published past + 1

-- a change by the domain itself
pub record ByDomain (by : CallerId) (op : ℕ) : Type 0 where
  pub domain : by.0 ≡ 0
  pub none : op ≡ 0

-- ---- a caller's next call

pub record IsNextCall (clients caller op : ℕ) (past : List Event) : Type 0 where
  pub active : is_active clients caller past ≡ true
  pub next : op ≡ last_op caller past + 1

-- the queue of the caller's server
abbrev pub queue_by : Setup → ℕ → ℕ → ℕ
queue_by setup clients caller = queue_of setup (caller - clients)

-- a change by a server that is busy, for its queue
pub record ByServer (setup : Setup) (clients : ℕ) (by : CallerId) (op queue : ℕ) (past : List Event) : Type 0 where
  pub server : clients < by.0
  pub call : IsNextCall clients by.0 op past
  pub busy : IsSome (in_hand clients by.0 past)
  pub its : queue_by setup clients by.0 ≡ queue

abbrev pub ChangeWorker : Setup → ℕ → CallerId → ℕ → ℕ → List Event → Type 0
ChangeWorker setup clients by op queue past = ByDomain by op ⊎ ByServer setup clients by op queue past

-- ---- Accept: a queue accepts the request of a call (XATMI, tpcall)

-- the priority of a request to that service, by the service's own and by what its caller set; a row has the priority that the setup gives its
-- service
abbrev pub priority_by : Setup → List ℕ → Option (Bool × ℤ) → ℕ
priority_by setup service asked = priority_of (row_for setup service 0 []).priority asked

-- what lets a request in at a queue, where it is accepted or forwarded: the queue isn't down or closed, and has room
pub record EntryHome (setup : Setup) (queue : ℕ) (past : List Event) : Type 0 where
  pub not_down : is_down queue past ≡ false
  pub not_closed : is_closed queue past ≡ false
  pub room : length (waiting setup queue past) < capacity_of setup queue

-- so many conversations may a caller originate and have open (this project's own)
abbrev pub connection_limit : ℕ
connection_limit = 16

-- where the request wants a reply the caller may have one descriptor more, and where it begins a conversation one connection
abbrev pub HasRoom : ℕ → ℕ → Mode → List Event → Type 0
HasRoom clients caller Reply past = length (open_descriptors caller past) < descriptor_limit clients caller
HasRoom clients caller ConvReceives past = length (connections caller past) < connection_limit
HasRoom clients caller ConvSends past = length (connections caller past) < connection_limit
HasRoom clients caller NoReply past = Unit {0}

-- the priority that the caller set, which a request that begins a conversation leaves for the next
abbrev pub asked_priority : ℕ → ℕ → Mode → List Event → Option (Bool × ℤ)
asked_priority clients caller mode past = if is_conversational mode then None else next_priority clients caller past

pub record AcceptWorker (setup : Setup) (clients : ℕ) (a : Accepted) (past : List Event) : Type 0 where
  pub call : IsNextCall clients a.by.0 a.op past
  pub caller : a.request.caller ≡ a.by
  pub number : a.request.number ≡ accepted a.by.0 past + 1
  pub room : HasRoom clients a.by.0 a.mode past
  pub sound : is_sound setup a.payload ≡ true
  pub not_older : least_version setup clients a.by.0 past ≤ a.version
  pub priority : a.priority ≡ priority_by setup a.service (asked_priority clients a.by.0 a.mode past)

-- a version of the board was published, and in it a row of that service on that queue stands, of which P holds
pub record RowStands (setup : Setup) (v : ℕ) (service : List ℕ) (queue : ℕ) (P : Row → Type 0) (past : List Event) : Type 0 where
  pub version : v ≤ published past
  pub row : IsSomeAnd (row_of service queue (rows_of_version setup past v)) P

-- the row by which a request is sent to its routine with that data, to a conversational service or another
pub record RowAdmits (setup : Setup) (conversational : Bool) (routine : List ℕ) (payload : Data) (row : Row) : Type 0 where
  pub its_routine : row.routine ≡ routine
  pub its_kind : row.conversational ≡ conversational
  pub kind : is_accepted setup row.accepts (kind_of payload) ≡ true

abbrev pub AcceptBefore : Setup → Accepted → List Event → Type 0
AcceptBefore setup a past = RowStands setup a.version a.service a.queue.0 (RowAdmits setup (is_conversational a.mode) a.routine a.payload) past

-- ---- Take: a server is given a request that waits (XATMI, tpservice)

pub record TakeHome (setup : Setup) (t : Taken) (past : List Event) : Type 0 where
  pub not_down : is_down (queue_of setup t.server.0) past ≡ false
  pub waits : has t.request (waiting setup (queue_of setup t.server.0) past) ≡ true
  pub count : t.k ≡ takes setup (queue_of setup t.server.0) past + 1

pub record TakeWorker (clients : ℕ) (t : Taken) (past : List Event) : Type 0 where
  pub idle : doing t.server.0 past ≡ Idle t.generation
  pub none : open_descriptors (caller_of clients t.server.0) past ≡ []
  pub unconnected : connections (caller_of clients t.server.0) past ≡ []

-- ---- Forward: a server passes its request on to another service (after Tuxedo, tpforward; that 32 forwards are the most is this project's own)

pub record ForwardWorker (setup : Setup) (clients : ℕ) (f : Forwarded) (past : List Event) : Type 0 where
  pub busy : doing f.server.0 past ≡ Busy f.generation f.request
  pub few : f.hop ≤ 32
  pub sound : is_sound setup f.payload ≡ true
  pub unconnected : connections (caller_of clients f.server.0) past ≡ []
  pub not_older : least_version setup clients (caller_of clients f.server.0) past ≤ f.version
  pub priority : f.priority ≡ priority_by setup f.service (next_priority clients (caller_of clients f.server.0) past)

-- the row stands, the request begins no conversation, and it is forwarded once more than before
pub record ForwardBefore (setup : Setup) (f : Forwarded) (past : List Event) : Type 0 where
  pub row : RowStands setup f.version f.service f.queue.0 (RowAdmits setup false f.routine f.payload) past
  pub mode : IsSomeAnd (sent_as f.request past) (λ (sent : SentAs). is_conversational sent.mode ≡ false)
  pub hop : f.hop ≡ count (is_forward_of f.request) past + 1

-- ---- Sweep: of a queue that is down, the request that waits longest is given up (this project's own)

pub record SweepHome (setup : Setup) (x : Swept) (past : List Event) : Type 0 where
  pub down : is_down x.queue.0 past ≡ true
  pub oldest : slice_get (waiting setup x.queue.0 past) 0 ≡ Some x.request

-- ---- Gone: a server that is off and may not start again is given up (after Tuxedo, RESTART and MAXGEN of UBBCONFIG)

pub record GoneHome (setup : Setup) (server : ℕ) (past : List Event) : Type 0 where
  pub known : 0 < queue_of setup server
  pub not_gone : is_gone server past ≡ false

pub record GoneWorker (setup : Setup) (clients server : ℕ) (past : List Event) : Type 0 where
  pub off : doing server past ≡ Off
  pub not_shut_down : was_shut_down server past ≡ false
  pub no_restart : may_start setup server (starts server past) (tick_floor clients (caller_of clients server) past) ≡ false

-- ---- Down: the queue has no server left, and no row of it stands

pub record DownHome (setup : Setup) (queue : ℕ) (past : List Event) : Type 0 where
  pub known : 0 < capacity_of setup queue
  pub not_down : is_down queue past ≡ false
  pub gone : AllGone setup queue past

-- no row of the queue stands
abbrev pub NoRows : Setup → ℕ → List Event → Type 0
NoRows setup queue past = (service : List ℕ) → row_of service queue (rows_of_version setup past (published past)) ≡ None

-- ---- Close: all clients have left

pub record CloseHome (setup : Setup) (queue : ℕ) (past : List Event) : Type 0 where
  pub known : 0 < capacity_of setup queue
  pub not_closed : is_closed queue past ≡ false

-- ---- Start and StartFailed (after Tuxedo, RESTART, MAXGEN and GRACE of UBBCONFIG)

pub record StartWorker (setup : Setup) (clients : ℕ) (b : Started) (past : List Event) : Type 0 where
  pub off : doing b.server.0 past ≡ Off
  pub not_gone : is_gone b.server.0 past ≡ false
  pub not_shut_down : was_shut_down b.server.0 past ≡ false
  pub count : b.generation.0 ≡ length (starts b.server.0 past) + 1
  pub floor : tick_floor clients (caller_of clients b.server.0) past ≤ b.tick
  pub may : may_start setup b.server.0 (starts b.server.0 past) b.tick ≡ true

-- ---- End: a request ends at its server (XATMI, tpreturn)

-- with which outcome a request may end: data that is returned is sound
abbrev pub may_end_so : Setup → Outcome → Bool
may_end_so setup (Returned code payload) = is_sound setup payload
may_end_so setup (Failed code payload) = is_sound setup payload
may_end_so setup _ = true

-- a return that stands left no connection open
abbrev pub is_return : Outcome → Bool
is_return (Returned code payload) = true
is_return (Failed code payload) = true
is_return _ = false

-- a version that was looked up for a forward that failed is no older than what the server has seen
pub record EndWorker (setup : Setup) (clients : ℕ) (e : Ended) (past : List Event) : Type 0 where
  pub busy : doing e.server.0 past ≡ Busy e.generation e.request
  pub may : may_end_so setup e.outcome ≡ true
  pub unconnected : is_return e.outcome ≡ true → connections (caller_of clients e.server.0) past ≡ []
  pub not_older : (version : ℕ) → version_of e.outcome ≡ Some version → least_version setup clients (caller_of clients e.server.0) past ≤ version

-- it was published
abbrev pub EndBefore : Ended → List Event → Type 0
EndBefore e past = (version : ℕ) → version_of e.outcome ≡ Some version → version ≤ published past

-- ---- Stop: a life of a server ends (TPEXIT after Tuxedo)

-- the life failed: the program's output ended, a read or a write of the link failed, or the program wrote what it may not
abbrev pub is_failure : StopCause → Bool
is_failure EndOfInput = true
is_failure ReadFault = true
is_failure WriteFault = true
is_failure (BadBytes place) = true
is_failure (OutOfTurn kind tag) = true
is_failure _ = false

abbrev pub is_starved : StopCause → Bool
is_starved StarvedStop = true
is_starved _ = false

-- with which cause a server that dies may stop, by how its last request ended
abbrev pub dying_stops : StopCause → Option Outcome → Bool
dying_stops cause (Some Died) = is_failure cause
dying_stops cause (Some Starved) = is_starved cause
dying_stops cause _ = false

-- with which cause a server that is idle may stop: by TPEXIT only where the last that it did was to end a request as failed or as a bad return,
-- and by any other
abbrev pub idle_stops : StopCause → Option Outcome → Bool
idle_stops Exit (Some (Failed code payload)) = true
idle_stops Exit (Some BadReturn) = true
idle_stops Exit _ = false
idle_stops cause _ = true

pub record StopWorker (clients : ℕ) (x : Stopped) (past : List Event) : Type 0 where
  pub alive : ((doing x.server.0 past ≡ Idle x.generation) × (idle_stops x.cause (last_outcome x.server.0 past) ≡ true))
      ⊎ ((doing x.server.0 past ≡ Dying x.generation) × (dying_stops x.cause (last_outcome x.server.0 past) ≡ true))
  pub none : open_descriptors (caller_of clients x.server.0) past ≡ []
  pub unconnected : connections (caller_of clients x.server.0) past ≡ []

-- the queue is closed and nothing waits there
pub record IsShut (setup : Setup) (queue : ℕ) (past : List Event) : Type 0 where
  pub closed : is_closed queue past ≡ true
  pub empty : waiting setup queue past ≡ []

-- ---- Answer: the caller is told what befell its request (XATMI, tpcall and tpgetrply)

pub record AnswerWorker (clients : ℕ) (a : Replied) (past : List Event) : Type 0 where
  pub active : is_active clients a.by.0 past ≡ true
  pub op : (a.op ≡ last_op a.by.0 past + 1) ⊎ ((a.op ≡ last_op a.by.0 past) × (just_accepted a.by.0 past ≡ Some a.request))
  pub caller : a.request.caller ≡ a.by
  pub is_open : has a.request (open_descriptors a.by.0 past) ≡ true

-- ---- Cancel: a descriptor is given up (XATMI, tpcancel), by a call, or where its caller leaves, returns or forwards

pub record CancelWorker (clients : ℕ) (c : Cancelled) (past : List Event) : Type 0 where
  pub call : IsNextCall clients c.by.0 c.op past ⊎ ((c.op ≡ 0) × (may_give_up clients c.by.0 past ≡ true))
  pub caller : c.request.caller ≡ c.by
  pub is_open : has c.request (open_descriptors c.by.0 past) ≡ true

-- ---- NotYet and Lapse: no reply has come, to a call that doesn't wait, or until its deadline (XATMI, TPEBLOCK and TPETIME of tpcall and tpgetrply)

-- the descriptor is the caller's own, and open
abbrev pub is_own_open : ℕ → List Event → RequestId → Bool
is_own_open caller past request = (request.caller.0 == caller) && has request (open_descriptors caller past)

-- what was looked at: one or more open descriptors of the caller
pub record LooksAt (caller : ℕ) (requests : List RequestId) (past : List Event) : Type 0 where
  pub some : 0 < length requests
  pub each : list_all (is_own_open caller past) requests ≡ true

pub record NotYetWorker (clients : ℕ) (n : Unready) (past : List Event) : Type 0 where
  pub call : IsNextCall clients n.by.0 n.op past
  pub looks : LooksAt n.by.0 n.requests past

-- the clock shows the deadline, which is the block time after a tick that the caller might read
pub record IsDue (setup : Setup) (clients caller now deadline : ℕ) (past : List Event) : Type 0 where
  pub block : setup.block_time ≤ deadline
  pub floor : tick_floor clients caller past ≤ deadline - setup.block_time
  pub due : deadline ≤ now

-- the clock has shown both the tick at which the call began and the one at which it gave up
abbrev pub WereShown : Setup → ℕ → ℕ → List Event → Type 0
WereShown setup now deadline past = (is_shown now past ≡ true) × (is_shown (deadline - setup.block_time) past ≡ true)

-- of a tpcall it has the number of that call, and the one request that the call sent
pub record LapseWorker (setup : Setup) (clients : ℕ) (l : Lapsed) (past : List Event) : Type 0 where
  pub active : is_active clients l.by.0 past ≡ true
  pub call : ((l.of_call ≡ false) × (l.op ≡ last_op l.by.0 past + 1))
      ⊎ ((l.of_call ≡ true) × (l.op ≡ last_op l.by.0 past) × (length l.requests ≡ 1) × (just_accepted l.by.0 past ≡ slice_get l.requests 0))
  pub looks : LooksAt l.by.0 l.requests past
  pub due : IsDue setup clients l.by.0 l.now l.deadline past

-- ---- Tick: a client moves the clock on (this project's own)

pub record TickHome (t : Ticked) (past : List Event) : Type 0 where
  pub onward : now past ≤ t.now
  pub step : t.now ≤ now past + 4294967295
  pub bound : t.now ≤ 2 ^ 62

pub record TickWorker (clients : ℕ) (t : Ticked) (past : List Event) : Type 0 where
  pub call : IsNextCall clients t.by.0 t.op past
  pub client : is_client clients t.by.0 ≡ true

-- ---- an end of a conversation

-- the end of that conversation is open at the caller: the originator's by its own events, the service's where its server is busy with the request
abbrev pub HasOpen : ℕ → ℕ → RequestId → List Event → Side → Type 0
HasOpen clients caller request past Originator = has request (connections caller past) ≡ true
HasOpen clients caller request past Service = (in_hand clients caller past ≡ Some request) × (is_hand_closed clients caller past ≡ false)

abbrev pub OpenEnd : ℕ → ℕ → RequestId → List Event → Type 0
OpenEnd clients caller request past = HasOpen clients caller request past (side_of caller request past)

-- 0 names the service's end, of the request in hand; any other descriptor an originator's, by the number of its request
abbrev pub named_by : ℕ → CallerId → ℕ → List Event → Option RequestId
named_by clients caller descriptor past = if descriptor == 0 then in_hand clients caller.0 past else Some (record { caller = caller; number = descriptor })

abbrev pub side_named : ℕ → Side
side_named descriptor = if descriptor == 0 then Service else Originator

-- the descriptor names an open end
abbrev pub NamesEnd : ℕ → CallerId → ℕ → List Event → Type 0
NamesEnd clients caller descriptor past = IsSomeAnd (named_by clients caller descriptor past) (λ request. (side_of caller.0 request past ≡ side_named descriptor) × OpenEnd clients caller.0 request past)

-- ---- Send and Receive (XATMI, tpsend and tprecv)

pub record SendWorker (clients : ℕ) (s : Sent) (past : List Event) : Type 0 where
  pub call : IsNextCall clients s.by.0 s.op past
  pub is_open : OpenEnd clients s.by.0 s.request past

pub record ReceiveWorker (clients : ℕ) (r : Received) (past : List Event) : Type 0 where
  pub call : IsNextCall clients r.by.0 r.op past
  pub is_open : OpenEnd clients r.by.0 r.request past

-- the conversation began with control at that end, and an event stands before, by all events
abbrev pub BeganAt : RequestId → List Event → Side → Type 0
BeganAt request past side = is_begun side request past ≡ true

abbrev pub StandsIn : List Event → (Event → List Event → Type 0) → Type 0
StandsIn past P = Was P past

-- the caller has control of that conversation, or hasn't
abbrev pub HasControl : Bool → ℕ → RequestId → List Event → Type 0
HasControl control caller request past = ControlIs control caller request past (BeganAt request past)

-- the caller finds that next at the other end
abbrev pub FindsNext : ℕ → ℕ → RequestId → Item → List Event → Type 0
FindsNext clients caller request item past = NextIs clients caller request past (BeganAt request past) (StandsIn past) item

-- without control an end receives what it finds next
pub record ReceiveBefore (clients : ℕ) (r : Received) (past : List Event) : Type 0 where
  pub control : HasControl false r.by.0 r.request past
  pub item : FindsNext clients r.by.0 r.request r.item past

-- ---- Break: the originator breaks the conversation (XATMI, tpdiscon; a leave and a return break what is open too, which is this project's own)

pub record BreakWorker (clients : ℕ) (b : Broken) (past : List Event) : Type 0 where
  pub op : IsNextCall clients b.by.0 b.op past ⊎ ((b.op ≡ 0) × (may_give_up clients b.by.0 past ≡ true))
  pub caller : b.request.caller ≡ b.by
  pub is_open : has b.request (connections b.by.0 past) ≡ true

-- ---- Refuse: a call is refused, with what shows that it is right (XATMI, the errors of each call; that they are shown is this project's own)

-- one of the requests has that number
abbrev pub is_numbered : ℕ → List RequestId → Bool
is_numbered number requests = list_any (λ (request : RequestId). request.number == number) requests

-- by what the caller knows itself; a descriptor is no open one, or names no connection, by what the call asks
abbrev pub ShowsItself : Setup → ℕ → ℕ → Fault → Evidence → List Event → Type 0
ShowsItself setup clients caller Inval Argument past = Unit {0}
ShowsItself setup clients caller NoEnt (Version v) past = least_version setup clients caller past ≤ v
ShowsItself setup clients caller IType (Version v) past = least_version setup clients caller past ≤ v
ShowsItself setup clients caller System (AllDown v) past = least_version setup clients caller past ≤ v
ShowsItself setup clients caller BadDesc (Descriptor d) past = (is_numbered d (open_descriptors caller past) ≡ false) ⊎ (is_numbered d (connections caller past) ≡ false)
ShowsItself setup clients caller Limit (Cells n) past = (n ≡ descriptor_limit clients caller) × (n ≤ length (unanswered caller past))
ShowsItself setup clients caller Limit (Clock tick) past = tick_floor clients caller past ≤ tick
ShowsItself setup clients caller Block (Queue queue n) past = (0 < n) × (n ≡ capacity_of setup queue.0)
ShowsItself setup clients caller Block Pool past = Unit {0}
ShowsItself setup clients caller Time (Deadline tick deadline) past = IsDue setup clients caller tick deadline past
ShowsItself setup clients caller Proto Role past = Unit {0}
ShowsItself setup clients caller Limit (Connections n) past = (n ≡ connection_limit) × (length (connections caller past) ≡ connection_limit)
ShowsItself setup clients caller Proto (Control control) past = Unit {0}
ShowsItself setup clients caller Block (Conversation descriptor) past = Unit {0}
ShowsItself setup clients caller EventFault (EndedEvidence descriptor event code) past = Unit {0}
ShowsItself setup clients caller Limit (Rows n) past = Unit {0}
ShowsItself setup clients caller Match (Routine routine) past = Unit {0}
ShowsItself setup clients caller NoEnt NoRow past = Unit {0}
ShowsItself setup clients caller fault evidence past = ⊥

-- by what it saw: a version was published, a tick was shown, and a queue was full at a moment not before the caller's last event there
abbrev pub WasSeen : Setup → ℕ → ℕ → Evidence → List Event → Type 0
WasSeen setup clients caller (Version v) past = v ≤ published past
WasSeen setup clients caller (AllDown v) past = v ≤ published past
WasSeen setup clients caller (Clock tick) past = is_shown tick past ≡ true
WasSeen setup clients caller (Queue queue n) past = HeldSince setup clients caller queue.0 (λ moment. length (waiting setup queue.0 moment) ≡ n) past
WasSeen setup clients caller (Deadline tick deadline) past = WereShown setup tick deadline past
WasSeen setup clients caller evidence past = Unit {0}

-- what the caller's own events show of an end: the descriptor names an open one, and the code of an ending is 0
abbrev pub IsOwnEvidence : ℕ → CallerId → Evidence → List Event → Type 0
IsOwnEvidence clients caller (Conversation descriptor) past = NamesEnd clients caller descriptor past
IsOwnEvidence clients caller (EndedEvidence descriptor event code) past = NamesEnd clients caller descriptor past × (code ≡ pos 0)
IsOwnEvidence clients caller evidence past = Unit {0}

-- rows of the board that show a refusal to the caller of a server of that queue: they are as many as may be; one of the queue has that routine; of the
-- queue a row lacks
abbrev pub Shows : ℕ → Evidence → List Row → Type 0
Shows queue (Rows n) rows = (n ≡ row_limit) × (length rows ≡ row_limit)
Shows queue (Routine routine) rows = (service : List ℕ) × IsSomeAnd (row_of service queue rows) (λ row. row.routine ≡ routine)
Shows queue NoRow rows = (service : List ℕ) × (row_of service queue rows ≡ None)
Shows queue evidence rows = ⊥

-- a version that is no older than what the caller has seen, of those that were published, shows it
abbrev pub ShowsAt : Setup → ℕ → CallerId → (List Row → Type 0) → List Event → Type 0
ShowsAt setup clients caller P past = (version : ℕ) × (least_version setup clients caller.0 past ≤ version) × (version ≤ published past) × P (rows_of_version setup past version)

-- a conversation began, with control at one of its ends
abbrev pub Began : (Side → Type 0) → Type 0
Began At = At Originator ⊎ At Service

-- what the board and other ends show: what is named is a conversation; a tpsend with control is refused where the other end closed
abbrev pub IsToldEvidence : Setup → ℕ → CallerId → Evidence → List Event → Type 0
IsToldEvidence setup clients caller (Rows n) past = ShowsAt setup clients caller (Shows (queue_by setup clients caller.0) (Rows n)) past
IsToldEvidence setup clients caller (Routine routine) past = ShowsAt setup clients caller (Shows (queue_by setup clients caller.0) (Routine routine)) past
IsToldEvidence setup clients caller NoRow past = ShowsAt setup clients caller (Shows (queue_by setup clients caller.0) NoRow) past
IsToldEvidence setup clients caller (Conversation descriptor) past = IsSomeAnd (named_by clients caller descriptor past) (λ request. Began (BeganAt request past))
IsToldEvidence setup clients caller (EndedEvidence descriptor event code) past = IsSomeAnd (named_by clients caller descriptor past) (λ request. EndedIs clients caller.0 request event past (BeganAt request past) (StandsIn past))
IsToldEvidence setup clients caller evidence past = Unit {0}

pub record RefuseBefore (setup : Setup) (clients : ℕ) (r : Refused) (past : List Event) : Type 0 where
  pub seen : WasSeen setup clients r.by.0 r.evidence past
  pub told : IsToldEvidence setup clients r.by r.evidence past

pub record RefuseWorker (setup : Setup) (clients : ℕ) (r : Refused) (past : List Event) : Type 0 where
  pub call : IsNextCall clients r.by.0 r.op past
  pub shows : ShowsItself setup clients r.by.0 r.fault r.evidence past
  pub own : IsOwnEvidence clients r.by r.evidence past

-- ---- Priority: a caller sets the priority of its next request (after Tuxedo, tpsprio)

pub record PriorityWorker (clients : ℕ) (p : Prioritized) (past : List Event) : Type 0 where
  pub call : IsNextCall clients p.by.0 p.op past

-- ---- Leave: a client that has no descriptor and no connection open leaves; that it has made all its calls is said by `MadeCalls`

pub record LeaveWorker (clients client : ℕ) (past : List Event) : Type 0 where
  pub known : is_client clients client ≡ true
  pub not_left : has_left client past ≡ false
  pub none : open_descriptors client past ≡ []
  pub unconnected : connections client past ≡ []

-- ---- all kinds

-- what is asked of the events of the event's own home
abbrev pub HomePart : Setup → Event → List Event → Type 0
HomePart setup (Advertise a) past = AdvertiseHome setup a past
HomePart setup (Withdraw w) past = WithdrawHome setup w past
HomePart setup (Accept a) past = EntryHome setup a.queue.0 past
HomePart setup (Take t) past = TakeHome setup t past
HomePart setup (Forward f) past = EntryHome setup f.queue.0 past
HomePart setup (Sweep x) past = SweepHome setup x past
HomePart setup (Gone server) past = GoneHome setup server.0 past
HomePart setup (Down queue) past = DownHome setup queue.0 past
HomePart setup (Close queue) past = CloseHome setup queue.0 past
HomePart setup (Tick t) past = TickHome t past
HomePart setup (Start b) past = Unit {0}
HomePart setup (StartFailed b) past = Unit {0}
HomePart setup (End e) past = Unit {0}
HomePart setup (Stop x) past = Unit {0}
HomePart setup (Answer a) past = Unit {0}
HomePart setup (Cancel c) past = Unit {0}
HomePart setup (Lapse l) past = Unit {0}
HomePart setup (Refuse r) past = Unit {0}
HomePart setup (NotYet n) past = Unit {0}
HomePart setup (Leave client) past = Unit {0}
HomePart setup (Send s) past = Unit {0}
HomePart setup (Receive r) past = Unit {0}
HomePart setup (Break b) past = Unit {0}
HomePart setup (Priority p) past = Unit {0}

-- what is asked of the events of the event's own worker
abbrev pub WorkerPart : Setup → ℕ → Event → List Event → Type 0
WorkerPart setup clients (Advertise a) past = ChangeWorker setup clients a.by a.op a.queue.0 past
WorkerPart setup clients (Withdraw w) past = ChangeWorker setup clients w.by w.op w.queue.0 past
WorkerPart setup clients (Accept a) past = AcceptWorker setup clients a past
WorkerPart setup clients (Take t) past = TakeWorker clients t past
WorkerPart setup clients (Forward f) past = ForwardWorker setup clients f past
WorkerPart setup clients (Sweep x) past = Unit {0}
WorkerPart setup clients (Gone server) past = GoneWorker setup clients server.0 past
WorkerPart setup clients (Down queue) past = Unit {0}
WorkerPart setup clients (Close queue) past = Unit {0}
WorkerPart setup clients (Tick t) past = TickWorker clients t past
WorkerPart setup clients (Start b) past = StartWorker setup clients b past
WorkerPart setup clients (StartFailed b) past = StartWorker setup clients b past
WorkerPart setup clients (End e) past = EndWorker setup clients e past
WorkerPart setup clients (Stop x) past = StopWorker clients x past
WorkerPart setup clients (Answer a) past = AnswerWorker clients a past
WorkerPart setup clients (Cancel c) past = CancelWorker clients c past
WorkerPart setup clients (Lapse l) past = LapseWorker setup clients l past
WorkerPart setup clients (Refuse r) past = RefuseWorker setup clients r past
WorkerPart setup clients (NotYet n) past = NotYetWorker clients n past
WorkerPart setup clients (Leave client) past = LeaveWorker clients client.0 past
WorkerPart setup clients (Send s) past = SendWorker clients s past
WorkerPart setup clients (Receive r) past = ReceiveWorker clients r past
WorkerPart setup clients (Break b) past = BreakWorker clients b past
WorkerPart setup clients (Priority p) past = PriorityWorker clients p past

-- nothing comes before the boot is over but what the boot advertises
abbrev pub IsBooted : Setup → Event → List Event → Type 0
IsBooted setup (Advertise a) past = Unit {0}
IsBooted setup _ past = boot setup ≤ published past

-- what is asked of the events of other homes
abbrev pub NamedBefore : Setup → ℕ → Event → List Event → Type 0
NamedBefore setup clients (Advertise a) past = Unit {0}
NamedBefore setup clients (Withdraw w) past = w.by.0 ≡ 0 → AllGone setup w.queue.0 past
NamedBefore setup clients (Accept a) past = AcceptBefore setup a past
NamedBefore setup clients (Take t) past = Unit {0}
NamedBefore setup clients (Forward f) past = ForwardBefore setup f past
NamedBefore setup clients (Sweep x) past = Unit {0}
NamedBefore setup clients (Gone server) past = Unit {0}
NamedBefore setup clients (Down queue) past = NoRows setup queue.0 past
NamedBefore setup clients (Close queue) past = AllLeft clients past
NamedBefore setup clients (Tick t) past = Unit {0}
NamedBefore setup clients (Start b) past = is_shown b.tick past ≡ true
NamedBefore setup clients (StartFailed b) past = is_shown b.tick past ≡ true
NamedBefore setup clients (End e) past = EndBefore e past
NamedBefore setup clients (Stop x) past = x.cause ≡ Shutdown → IsShut setup (queue_of setup x.server.0) past
NamedBefore setup clients (Answer a) past = WasSettled a.request (IsAnswerTo a.answer) past
NamedBefore setup clients (Cancel c) past = Unit {0}
NamedBefore setup clients (Lapse l) past = WereShown setup l.now l.deadline past
NamedBefore setup clients (Refuse r) past = RefuseBefore setup clients r past
NamedBefore setup clients (NotYet n) past = Unit {0}
NamedBefore setup clients (Leave client) past = Unit {0}
NamedBefore setup clients (Send s) past = HasControl true s.by.0 s.request past
NamedBefore setup clients (Receive r) past = ReceiveBefore clients r past
NamedBefore setup clients (Break b) past = Unit {0}
NamedBefore setup clients (Priority p) past = Unit {0}

pub record BeforePart (setup : Setup) (clients : ℕ) (e : Event) (past : List Event) : Type 0 where
  pub booted : IsBooted setup e past
  pub named : NamedBefore setup clients e past

-- the event may come next
pub record Case (s : State) (e : Event) : Type 0 where
  pub home : HomePart s.setup e s.past
  pub worker : WorkerPart s.setup s.clients e s.past
  pub before : BeforePart s.setup s.clients e s.past
