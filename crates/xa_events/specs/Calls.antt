-- What a call may become: each of its events fits the call, by the events before (XATMI, tpcall, tpacall, tpgetrply and tpcancel, tpconnect and its kin,
-- tpadvertise and tpunadvertise; tpsprio after Tuxedo; the clock is this project's own). The calls of a client, and those of a service.
use Rattle.std.specs.Prelude.{◌≡◌, ◌⊎◌, ℕ, ◌+◌, ◌^◌, ◌<◌, ◌≤◌, ◌==◌, ◌||◌, ◌&&◌, not, Bool, true, false, List, [], ◌∷◌, length, map, Option, Some, IsSomeAnd, if◌then◌else◌, None}
use Rattle.std.specs.List.{All, list_any}
use Rattle.xa_types.specs.declared.call.Op.{Op}
use Rattle.xa_types.specs.declared.call.Op.TheVariants.{Call, Acall, Get, GetAny, Cancel as CancelOp, Priority as PriorityOp, Advertise as AdvertiseOp, Unadvertise, Tick as TickOp, Connect, Send as SendOp, Receive as ReceiveOp, Disconnect}
use Rattle.xa_types.specs.declared.call.Direction.{Direction}
use Rattle.xa_types.specs.declared.call.Direction.TheVariants.{SendOnly, RecvOnly}
use Rattle.xa_types.specs.declared.call.Mode.{Mode}
use Rattle.xa_types.specs.declared.ids.CallerId.{CallerId}
use Rattle.xa_types.specs.declared.ids.RequestId.{RequestId}
use Rattle.xa_types.specs.declared.call.Ask.{Ask}
use Rattle.xa_types.specs.declared.call.CallFlags.{CallFlags}
use Rattle.xa_types.specs.declared.call.Mode.TheVariants.{Reply, NoReply, ConvReceives, ConvSends}
use Rattle.xa_types.specs.declared.fault.Fault.{Fault}
use Rattle.xa_types.specs.declared.fault.Fault.TheVariants.{Inval, NoEnt, IType, BadDesc, Limit, Block, Time, Proto, System, Match, Event as EventFault}
use Rattle.xa_types.specs.declared.row.Row.{Row}
use Rattle.xa_types.specs.declared.data.Data.{Data}
use Rattle.xa_types.specs.declared.data.Kind.{Kind}
use Rattle.xa_types.specs.declared.setup.Setup.{Setup}
use Rattle.xa_types.specs.Name.{is_name}
use Rattle.xa_types.specs.Kind.{is_sound, is_accepted, kind_of}
use Rattle.xa_types.specs.Setup.{numbered, capacity_of}
use Rattle.xa_types.specs.Rows.{row_of}
use Rattle.std.specs.Str.{bytes_eq}
use Rattle.xa_events.specs.declared.event.Event.{Event}
use Rattle.xa_events.specs.declared.event.Event.TheVariants.{Accept, Tick, Answer, Cancel, Lapse, Refuse, NotYet, Priority, Advertise, Withdraw, Send, Receive, Break}
use Rattle.xa_events.specs.declared.event.Sent.{Sent}
use Rattle.xa_events.specs.declared.event.Accepted.{Accepted}
use Rattle.xa_events.specs.declared.event.Replied.{Replied}
use Rattle.xa_events.specs.declared.event.Lapsed.{Lapsed}
use Rattle.xa_events.specs.declared.event.Evidence.{Evidence}
use Rattle.xa_events.specs.declared.event.Evidence.TheVariants.{Argument, Version, AllDown, Descriptor, Cells, Clock, Queue, Pool, Deadline, Role, Rows, Routine, NoRow, Connections, Control as ControlEvidence, Conversation, Ended as EndedEvidence}
use Rattle.xa_events.specs.Answers.{reply_of, answer_to}
use Rattle.xa_events.specs.Board.{published, listed_in}
use Rattle.xa_events.specs.Queue.{waiting, is_down, is_closed}
use Rattle.xa_events.specs.Caller.{is_call_of, op_in, newest_call, last_op, just_accepted, open_descriptors, least_version, is_client, is_conversational}
use Rattle.xa_events.specs.Clock.{now}
use Rattle.xa_events.specs.Homes.{HeldSince}
use Rattle.xa_events.specs.Request.{SentAs, sent_as, WasSettled}
use Rattle.xa_events.specs.Words.{AtEach, has}
use Rattle.xa_events.specs.Conversation.{connections}
use Rattle.xa_events.specs.Server.{in_hand}
use Rattle.xa_events.specs.Cases.{HasControl, ShowsAt, queue_by, is_numbered, named_by, NamesEnd}

-- what is asked is no service that could be: its name is none, or its data isn't sound (XATMI, TPEINVAL; that these are invalid arguments is this
-- project's own)
abbrev pub is_invalid_ask : Setup → Ask → Bool
is_invalid_ask setup ask = not (is_name ask.service) || not (is_sound setup ask.payload)

-- a tpcall that TPEINVAL refuses: so, or it has TPNOREPLY (XATMI, TPEINVAL of tpcall)
abbrev pub is_invalid_call : Setup → Ask → Bool
is_invalid_call setup ask = is_invalid_ask setup ask || ask.flags.no_reply

-- what the service does first, where the tpconnect has exactly one of TPSENDONLY and TPRECVONLY
abbrev pub mode_for : Direction → Option Mode
mode_for SendOnly = Some ConvReceives
mode_for RecvOnly = Some ConvSends
mode_for _ = None

abbrev pub is_none : {X : Type 0} → Option X → Bool
is_none None = true
is_none (Some x) = false

-- a tpconnect that TPEINVAL refuses: as a tpcall, or it hasn't exactly one of the two (XATMI, TPEINVAL of tpconnect)
abbrev pub is_invalid_connect : Setup → Ask → Bool
is_invalid_connect setup ask = is_invalid_call setup ask || is_none (mode_for ask.direction)

-- a tpacall with TPNOREPLY wants none (XATMI, tpacall)
abbrev pub mode_of : Ask → Mode
mode_of ask = if ask.flags.no_reply then NoReply else Reply

-- a call with these flags gives up at its deadline: it may wait, and its waiting has an end (XATMI, TPNOBLOCK and TPNOTIME)
abbrev pub times_out : CallFlags → Bool
times_out flags = not flags.no_block && not flags.no_time

-- the request carries what was asked, in that mode
pub record AskSent (invalid : Bool) (its_mode : Mode) (ask : Ask) (a : Accepted) : Type 0 where
  pub valid : invalid ≡ false
  pub service : a.service ≡ ask.service
  pub payload : a.payload ≡ ask.payload
  pub mode : a.mode ≡ its_mode

-- the caller is told what befell the request, by a call with that TPNOCHANGE kind
abbrev pub IsTold : Option Kind → Replied → List Event → Type 0
IsTold expect b before = WasSettled b.request (λ settlement. b.answer ≡ answer_to expect (reply_of settlement)) before

-- the caller is told what befell the request that this call sent
pub record CallAnswered (ask : Ask) (b : Replied) (before : List Event) : Type 0 where
  pub same : b.op ≡ last_op b.by.0 before
  pub request : just_accepted b.by.0 before ≡ Some b.request
  pub told : IsTold ask.expect b before

-- no reply came to the request that this call sent
pub record CallLapsed (ask : Ask) (l : Lapsed) : Type 0 where
  pub of_call : l.of_call ≡ true
  pub late : times_out ask.flags ≡ true

-- whether a service on one of these rows accepts the kind of the data
abbrev pub is_accepted_by : Setup → Data → List Row → Bool
is_accepted_by setup payload rows = list_any (λ (row : Row). is_accepted setup row.accepts (kind_of payload)) rows

-- the queue takes no request now: it is down, closed, or full
abbrev pub IsShutOut : Setup → ℕ → List Event → Type 0
IsShutOut setup queue past = (is_down queue past ≡ true) ⊎ (is_closed queue past ≡ true) ⊎ (length (waiting setup queue past) ≡ capacity_of setup queue)

-- a version that the caller may have read lists the queue, and each other queue that it lists took no request at a moment not before the caller's
-- last event there
pub record NoRoom (setup : Setup) (clients caller : ℕ) (service : List ℕ) (conversational : Bool) (queue : ℕ) (before : List Event) : Type 0 where
  pub version : ℕ
  pub floor : least_version setup clients caller before ≤ version
  pub stood : version ≤ published before
  pub lists : list_any (λ (row : Row). row.queue.0 == queue) (listed_in setup before version service conversational) ≡ true
  pub others : All (λ (row : Row). (row.queue.0 ≡ queue) ⊎ HeldSince setup clients caller row.queue.0 (IsShutOut setup row.queue.0) before) (listed_in setup before version service conversational)

-- the version lists some queue, and each that it lists was down or closed
pub record AllShut (setup : Setup) (v : ℕ) (service : List ℕ) (conversational : Bool) (before : List Event) : Type 0 where
  pub some : listed_in setup before v service conversational ≡ [] → ⊥
  pub shut : All (λ (row : Row). (is_down row.queue.0 before ≡ true) ⊎ (is_closed row.queue.0 before ≡ true)) (listed_in setup before v service conversational)

-- how a call asks for a service: whether its arguments are invalid, whether it looks for a conversational service, and whether it wants a reply cell
pub record Asking : Type 0 where
  pub invalid : Bool
  pub conversational : Bool
  pub wants_cell : Bool

abbrev pub as_call : Setup → Ask → Asking
as_call setup ask = record { invalid = is_invalid_call setup ask; conversational = false; wants_cell = true }

abbrev pub as_acall : Setup → Ask → Asking
as_acall setup ask = record { invalid = is_invalid_ask setup ask; conversational = false; wants_cell = not ask.flags.no_reply }

abbrev pub as_connect : Setup → Ask → Asking
as_connect setup ask = record { invalid = is_invalid_connect setup ask; conversational = true; wants_cell = false }

-- TPEINVAL by the call alone; TPENOENT where the version that was looked up lists no row, and TPEITYPE where it lists some, of which none accepts
-- the kind of the data; TPELIMIT of a call that wants a reply, or of a tpconnect; TPEBLOCK under TPNOBLOCK; TPETIME without TPNOBLOCK and TPNOTIME;
-- TPESYSTEM where no queue is left
abbrev pub AskRefused : Setup → ℕ → ℕ → Asking → Ask → Fault → Evidence → List Event → Type 0
AskRefused setup clients caller how ask Inval Argument before = how.invalid ≡ true
AskRefused setup clients caller how ask NoEnt (Version v) before = (how.invalid ≡ false) × (listed_in setup before v ask.service how.conversational ≡ [])
AskRefused setup clients caller how ask IType (Version v) before = (how.invalid ≡ false) × (listed_in setup before v ask.service how.conversational ≡ [] → ⊥)
    × (is_accepted_by setup ask.payload (listed_in setup before v ask.service how.conversational) ≡ false)
AskRefused setup clients caller how ask Limit (Cells n) before = (how.invalid ≡ false) × (how.wants_cell ≡ true)
AskRefused setup clients caller how ask Limit (Connections n) before = (how.invalid ≡ false) × (how.conversational ≡ true)
AskRefused setup clients caller how ask Block Pool before = (how.invalid ≡ false) × (ask.flags.no_block ≡ true)
AskRefused setup clients caller how ask Block (Queue queue n) before = (how.invalid ≡ false) × (ask.flags.no_block ≡ true) × NoRoom setup clients caller ask.service how.conversational queue.0 before
AskRefused setup clients caller how ask Time (Deadline tick deadline) before = (how.invalid ≡ false) × (times_out ask.flags ≡ true)
AskRefused setup clients caller how ask System (AllDown v) before = (how.invalid ≡ false) × AllShut setup v ask.service how.conversational before
AskRefused setup clients caller how ask fault evidence before = ⊥

abbrev pub CallRefused : Setup → ℕ → ℕ → Ask → Fault → Evidence → List Event → Type 0
CallRefused setup clients caller ask fault evidence before = AskRefused setup clients caller (as_call setup ask) ask fault evidence before

-- these requests are the one with that descriptor
abbrev pub IsJust : ℕ → List RequestId → Type 0
IsJust descriptor requests = map (λ (request : RequestId). request.number) requests ≡ descriptor ∷ []

-- the descriptor isn't open
abbrev pub NoDescriptor : ℕ → ℕ → Fault → Evidence → List Event → Type 0
NoDescriptor caller descriptor BadDesc (Descriptor d) before = (d ≡ descriptor) × (is_numbered d (open_descriptors caller before) ≡ false)
NoDescriptor caller descriptor fault evidence before = ⊥

-- none of the caller's is
abbrev pub NoneOpen : ℕ → Fault → Evidence → List Event → Type 0
NoneOpen caller BadDesc (Descriptor d) before = (d ≡ 0) × (open_descriptors caller before ≡ [])
NoneOpen caller fault evidence before = ⊥

-- a server may not move the clock, and a client not past its end
abbrev pub TickRefused : ℕ → ℕ → ℕ → Fault → Evidence → Type 0
TickRefused clients caller n Proto Role = is_client clients caller ≡ false
TickRefused clients caller n Limit (Clock tick) = (is_client clients caller ≡ true) × (2 ^ 62 < tick + n)
TickRefused clients caller n fault evidence = ⊥

-- ---- conversations (XATMI, tpconnect, tpsend, tprecv and tpdiscon)

pub record ConnectSent (setup : Setup) (ask : Ask) (a : Accepted) : Type 0 where
  pub valid : is_invalid_connect setup ask ≡ false
  pub service : a.service ≡ ask.service
  pub payload : a.payload ≡ ask.payload
  pub mode : mode_for ask.direction ≡ Some a.mode

-- the conversation that the caller originated with that descriptor
abbrev pub connection : CallerId → ℕ → RequestId
connection caller descriptor = record { caller = caller; number = descriptor }

abbrev pub is_connected : CallerId → ℕ → List Event → Bool
is_connected caller descriptor before = has (connection caller descriptor) (connections caller.0 before)

-- the request began a conversation, or didn't
abbrev pub HasBegun : Bool → RequestId → List Event → Type 0
HasBegun conversational request before = IsSomeAnd (sent_as request before) (λ (sent : SentAs). is_conversational sent.mode ≡ conversational)

-- the descriptor names an open end, of which the caller has control or hasn't, by what Control says
abbrev pub IsConnected : ℕ → Bool → CallerId → ℕ → List Event → (Bool → RequestId → Type 0) → Type 0
IsConnected clients control caller descriptor own Control = NamesEnd clients caller descriptor own × IsSomeAnd (named_by clients caller descriptor own) (Control control)

-- it names none; or it is 0, in a service whose request began no conversation, by what Plain says
abbrev pub IsUnconnected : ℕ → CallerId → ℕ → List Event → (RequestId → Type 0) → Type 0
IsUnconnected clients caller descriptor own Plain = (NamesEnd clients caller descriptor own → ⊥) ⊎ ((descriptor ≡ 0) × IsSomeAnd (in_hand clients caller.0 own) Plain)

-- the event is of the end that the descriptor names
pub record IsOfEnd (clients : ℕ) (caller : CallerId) (descriptor : ℕ) (request : RequestId) (own : List Event) : Type 0 where
  pub named : named_by clients caller descriptor own ≡ Some request
  pub is_open : NamesEnd clients caller descriptor own

pub record MessageSent (setup : Setup) (clients descriptor : ℕ) (passes : Bool) (payload : Data) (s : Sent) (own : List Event) : Type 0 where
  pub sound : is_sound setup payload ≡ true
  pub end : IsOfEnd clients s.by descriptor s.request own
  pub payload_sent : s.payload ≡ payload
  pub passed : s.passes ≡ passes

-- TPEINVAL where the data isn't sound, then TPEBADDESC where no end is open, then TPEPROTO without control; with control the other end has ended, or
-- there is no room: TPEBLOCK under TPNOBLOCK, TPETIME without TPNOBLOCK and TPNOTIME
abbrev pub SendRefused : Setup → ℕ → CallerId → ℕ → CallFlags → Data → Fault → Evidence → List Event → (Bool → RequestId → Type 0) → (RequestId → Type 0) → Type 0
SendRefused setup clients caller descriptor flags payload Inval Argument own Control Plain = is_sound setup payload ≡ false
SendRefused setup clients caller descriptor flags payload BadDesc (Descriptor named) own Control Plain = (is_sound setup payload ≡ true) × (named ≡ descriptor) × IsUnconnected clients caller descriptor own Plain
SendRefused setup clients caller descriptor flags payload Proto (ControlEvidence control) own Control Plain = (is_sound setup payload ≡ true) × (control ≡ false) × IsConnected clients false caller descriptor own Control
SendRefused setup clients caller descriptor flags payload EventFault (EndedEvidence named event code) own Control Plain = (is_sound setup payload ≡ true) × (named ≡ descriptor)
SendRefused setup clients caller descriptor flags payload Block (Conversation named) own Control Plain =
    (is_sound setup payload ≡ true) × (flags.no_block ≡ true) × (named ≡ descriptor) × IsConnected clients true caller descriptor own Control
SendRefused setup clients caller descriptor flags payload Block Pool own Control Plain = (is_sound setup payload ≡ true) × (flags.no_block ≡ true) × IsConnected clients true caller descriptor own Control
SendRefused setup clients caller descriptor flags payload Time (Deadline tick deadline) own Control Plain = (is_sound setup payload ≡ true) × (times_out flags ≡ true) × IsConnected clients true caller descriptor own Control
SendRefused setup clients caller descriptor flags payload fault evidence own Control Plain = ⊥

-- TPEBADDESC where no end is open, then TPEPROTO with control; without control nothing has come: TPEBLOCK under TPNOBLOCK, TPETIME without TPNOBLOCK
-- and TPNOTIME
abbrev pub ReceiveRefused : ℕ → CallerId → ℕ → CallFlags → Fault → Evidence → List Event → (Bool → RequestId → Type 0) → (RequestId → Type 0) → Type 0
ReceiveRefused clients caller descriptor flags BadDesc (Descriptor named) own Control Plain = (named ≡ descriptor) × IsUnconnected clients caller descriptor own Plain
ReceiveRefused clients caller descriptor flags Proto (ControlEvidence control) own Control Plain = (control ≡ true) × IsConnected clients true caller descriptor own Control
ReceiveRefused clients caller descriptor flags Block (Conversation named) own Control Plain = (flags.no_block ≡ true) × (named ≡ descriptor) × IsConnected clients false caller descriptor own Control
ReceiveRefused clients caller descriptor flags Time (Deadline tick deadline) own Control Plain = (times_out flags ≡ true) × IsConnected clients false caller descriptor own Control
ReceiveRefused clients caller descriptor flags fault evidence own Control Plain = ⊥

-- only who began the conversation may break it
abbrev pub DisconnectRefused : CallerId → ℕ → Fault → Evidence → List Event → Type 0
DisconnectRefused caller descriptor BadDesc (Descriptor named) before = (named ≡ descriptor) × (is_connected caller descriptor before ≡ false)
DisconnectRefused caller descriptor fault evidence before = ⊥

-- ---- changes of the board (XATMI, tpadvertise and tpunadvertise)

-- TPEPROTO of a client, which changes no rows (this project's own); else TPEINVAL for a bad name; else, of a version that the server may have read,
-- TPEMATCH where that service's row of its queue has another routine, and TPELIMIT where the board is full without that row
abbrev pub AdvertiseRefused : Setup → ℕ → CallerId → List ℕ → List ℕ → Fault → Evidence → List Event → Type 0
AdvertiseRefused setup clients caller service routine Proto Role before = is_client clients caller.0 ≡ true
AdvertiseRefused setup clients caller service routine Inval Argument before = (is_client clients caller.0 ≡ false) × ((is_name service && is_name routine) ≡ false)
AdvertiseRefused setup clients caller service routine Match (Routine found) before = (is_client clients caller.0 ≡ false) × ((is_name service && is_name routine) ≡ true) × (bytes_eq found routine ≡ false)
    × ShowsAt setup clients caller (λ rows. IsSomeAnd (row_of service (queue_by setup clients caller.0) rows) (λ row. row.routine ≡ found)) before
AdvertiseRefused setup clients caller service routine Limit (Rows n) before = (is_client clients caller.0 ≡ false) × ((is_name service && is_name routine) ≡ true)
    × ShowsAt setup clients caller (λ rows. (length rows ≡ n) × (row_of service (queue_by setup clients caller.0) rows ≡ None)) before
AdvertiseRefused setup clients caller service routine fault evidence before = ⊥

-- TPEPROTO of a client; else TPEINVAL for a bad name; else TPENOENT where that service has no row of the server's queue
abbrev pub UnadvertiseRefused : Setup → ℕ → CallerId → List ℕ → Fault → Evidence → List Event → Type 0
UnadvertiseRefused setup clients caller service Proto Role before = is_client clients caller.0 ≡ true
UnadvertiseRefused setup clients caller service Inval Argument before = (is_client clients caller.0 ≡ false) × (is_name service ≡ false)
UnadvertiseRefused setup clients caller service NoEnt NoRow before = (is_client clients caller.0 ≡ false) × (is_name service ≡ true)
    × ShowsAt setup clients caller (λ rows. row_of service (queue_by setup clients caller.0) rows ≡ None) before
UnadvertiseRefused setup clients caller service fault evidence before = ⊥

-- the event may be one of that call
abbrev pub FitsEvent : Setup → ℕ → Op → Event → List Event → Type 0
FitsEvent setup clients (Call ask) (Accept a) before = AskSent (is_invalid_call setup ask) Reply ask a
FitsEvent setup clients (Call ask) (Answer b) before = CallAnswered ask b before
FitsEvent setup clients (Call ask) (Lapse l) before = CallLapsed ask l
FitsEvent setup clients (Call ask) (Refuse r) before = CallRefused setup clients r.by.0 ask r.fault r.evidence before
FitsEvent setup clients (Acall ask) (Accept a) before = AskSent (is_invalid_ask setup ask) (mode_of ask) ask a
FitsEvent setup clients (Acall ask) (Refuse r) before = AskRefused setup clients r.by.0 (as_acall setup ask) ask r.fault r.evidence before
FitsEvent setup clients (Get d flags expect) (Answer b) before = (b.request.number ≡ d) × IsTold expect b before
FitsEvent setup clients (Get d flags expect) (NotYet n) before = (flags.no_block ≡ true) × IsJust d n.requests
FitsEvent setup clients (Get d flags expect) (Lapse l) before = (times_out flags ≡ true) × (l.of_call ≡ false) × IsJust d l.requests
FitsEvent setup clients (Get d flags expect) (Refuse r) before = NoDescriptor r.by.0 d r.fault r.evidence before
FitsEvent setup clients (GetAny flags expect) (Answer b) before = IsTold expect b before
FitsEvent setup clients (GetAny flags expect) (NotYet n) before = (flags.no_block ≡ true) × (n.requests ≡ open_descriptors n.by.0 before)
FitsEvent setup clients (GetAny flags expect) (Lapse l) before = (times_out flags ≡ true) × (l.of_call ≡ false) × (l.requests ≡ open_descriptors l.by.0 before)
FitsEvent setup clients (GetAny flags expect) (Refuse r) before = NoneOpen r.by.0 r.fault r.evidence before
FitsEvent setup clients (CancelOp d) (Cancel c) before = c.request.number ≡ d
FitsEvent setup clients (CancelOp d) (Refuse r) before = NoDescriptor r.by.0 d r.fault r.evidence before
FitsEvent setup clients (PriorityOp absolute amount) (Priority p) before = (p.absolute ≡ absolute) × (p.amount ≡ amount)
FitsEvent setup clients (TickOp n) (Tick t) before = t.now ≡ now before + n
FitsEvent setup clients (TickOp n) (Refuse r) before = TickRefused clients r.by.0 n r.fault r.evidence
FitsEvent setup clients (AdvertiseOp service routine) (Advertise a) before = ((is_name service && is_name routine) ≡ true) × (a.service ≡ service) × (a.routine ≡ routine)
FitsEvent setup clients (AdvertiseOp service routine) (Refuse r) before = AdvertiseRefused setup clients r.by service routine r.fault r.evidence before
FitsEvent setup clients (Unadvertise service) (Withdraw w) before = (is_name service ≡ true) × (w.service ≡ service)
FitsEvent setup clients (Unadvertise service) (Refuse r) before = UnadvertiseRefused setup clients r.by service r.fault r.evidence before
FitsEvent setup clients (Connect ask) (Accept a) before = ConnectSent setup ask a
FitsEvent setup clients (Connect ask) (Refuse r) before = AskRefused setup clients r.by.0 (as_connect setup ask) ask r.fault r.evidence before
FitsEvent setup clients (SendOp descriptor flags passes payload) (Send s) before = MessageSent setup clients descriptor passes payload s before
FitsEvent setup clients (SendOp descriptor flags passes payload) (Refuse r) before = SendRefused setup clients r.by descriptor flags payload r.fault r.evidence before (λ control request. HasControl control r.by.0 request before) (λ request. HasBegun false request before)
FitsEvent setup clients (ReceiveOp descriptor flags) (Receive r) before = IsOfEnd clients r.by descriptor r.request before
FitsEvent setup clients (ReceiveOp descriptor flags) (Refuse r) before = ReceiveRefused clients r.by descriptor flags r.fault r.evidence before (λ control request. HasControl control r.by.0 request before) (λ request. HasBegun false request before)
FitsEvent setup clients (Disconnect descriptor) (Break b) before = b.request ≡ connection b.by descriptor
FitsEvent setup clients (Disconnect descriptor) (Refuse r) before = DisconnectRefused r.by descriptor r.fault r.evidence before
FitsEvent setup clients op e before = ⊥

-- ---- all calls of a caller

abbrev pub is_tpcall : Option Op → Bool
is_tpcall (Some (Call ask)) = true
is_tpcall op = false

-- the event accepts the request of a tpcall, whose answer is still to come
abbrev pub awaits_answer : List Op → Option Event → Bool
awaits_answer ops (Some (Accept a)) = is_tpcall (numbered a.op ops)
awaits_answer ops event = false

-- the event fits the call of its number, and where it begins that call, the one before is over
pub record FitsCall (setup : Setup) (clients caller : ℕ) (ops : List Op) (e : Event) (before : List Event) : Type 0 where
  pub fits : IsSomeAnd (numbered (op_in e) ops) (λ op. FitsEvent setup clients op e before)
  pub turn : op_in e ≡ last_op caller before + 1 → awaits_answer ops (newest_call caller before) ≡ false

-- each event of a call of the caller fits
abbrev pub FitsCalls : Setup → ℕ → ℕ → List Op → List Event → Type 0
FitsCalls setup clients caller ops past = AtEach (λ e before. is_call_of caller e ≡ true → FitsCall setup clients caller ops e before) past

-- the client made exactly these calls, in this order, each became what it may, and the last is over
pub record MadeCalls (setup : Setup) (clients caller : ℕ) (ops : List Op) (past : List Event) : Type 0 where
  pub all : last_op caller past ≡ length ops
  pub each : FitsCalls setup clients caller ops past
  pub over : awaits_answer ops (newest_call caller past) ≡ false
