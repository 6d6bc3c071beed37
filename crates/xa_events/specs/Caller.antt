-- A caller, read off the events: its last call, its requests, its open descriptors, what it has read of the board and of the clock (XATMI, tpcall,
-- tpacall and tpgetrply; that 50 and 16 descriptors may be open is this project's own).
use Rattle.std.specs.Prelude.{◌≡◌, ℕ, ℤ, ◌+◌, ◌-◌, ◌==◌, ◌<◌, ◌&&◌, not, nat_le, nat_lt, Bool, true, false, List, Option, Some, None, if◌then◌else◌}
use Rattle.std.specs.List.{list_any, filter_map, slice_get}
use Rattle.xa_types.specs.declared.ids.RequestId.{RequestId}
use Rattle.xa_types.specs.declared.setup.Setup.{Setup}
use Rattle.xa_types.specs.declared.call.Mode.{Mode}
use Rattle.xa_types.specs.declared.call.Mode.TheVariants.{Reply, ConvReceives, ConvSends}
use Rattle.xa_events.specs.declared.event.Event.{Event}
use Rattle.xa_events.specs.declared.event.Event.TheVariants.{Advertise, Withdraw, Accept, Forward, Tick, Start, StartFailed, End, Answer, Cancel, Lapse, Refuse, NotYet, Leave, Send, Receive, Break, Priority}
use Rattle.xa_events.specs.declared.event.Evidence.{Evidence}
use Rattle.xa_events.specs.declared.event.Evidence.TheVariants.{Version, AllDown, Clock, Deadline}
use Rattle.xa_events.specs.declared.event.Outcome.{Outcome}
use Rattle.xa_events.specs.declared.event.Outcome.TheVariants.{BadForward}
use Rattle.xa_events.specs.Words.{latest, count, kept, greatest}
use Rattle.xa_events.specs.State.{caller_of}
use Rattle.xa_events.specs.Board.{boot}
use Rattle.xa_events.specs.Server.{doing, is_busy}

-- ---- calls

-- the caller of the event and the number of its call, of the kinds that belong to a call
abbrev pub call_in : Event → Option (ℕ × ℕ)
call_in (Advertise a) = Some (a.by.0, a.op)
call_in (Withdraw w) = Some (w.by.0, w.op)
call_in (Accept a) = Some (a.by.0, a.op)
call_in (Tick t) = Some (t.by.0, t.op)
call_in (Answer a) = Some (a.by.0, a.op)
call_in (Cancel c) = Some (c.by.0, c.op)
call_in (Lapse l) = Some (l.by.0, l.op)
call_in (Refuse r) = Some (r.by.0, r.op)
call_in (NotYet n) = Some (n.by.0, n.op)
call_in (Send s) = Some (s.by.0, s.op)
call_in (Receive r) = Some (r.by.0, r.op)
call_in (Break b) = Some (b.by.0, b.op)
call_in (Priority p) = Some (p.by.0, p.op)
call_in _ = None

-- calls are counted from 1: an event with the number 0 was made by no call
abbrev pub is_numbered_by : ℕ → Option (ℕ × ℕ) → Bool
is_numbered_by caller None = false
is_numbered_by caller (Some (by, op)) = (by == caller) && nat_lt 0 op

-- the event is of a call of the caller
abbrev pub is_call_of : ℕ → Event → Bool
is_call_of caller e = is_numbered_by caller (call_in e)

abbrev pub number_in : Option (ℕ × ℕ) → ℕ
number_in None = 0
number_in (Some (by, op)) = op

-- the number of the event's call
abbrev pub op_in : Event → ℕ
op_in e = number_in (call_in e)

abbrev pub op_of : Option Event → ℕ
op_of None = 0
op_of (Some event) = op_in event

-- the newest event of a call of the caller
unfoldable pub newest_call : ℕ → List Event → Option Event
newest_call caller past = latest (is_call_of caller) past

-- the number of the caller's last call; 0 where it made none
abbrev pub last_op : ℕ → List Event → ℕ
last_op caller past = op_of (newest_call caller past)

abbrev pub accepted_in : Option Event → Option RequestId
accepted_in (Some (Accept a)) = Some a.request
accepted_in _ = None

-- the request as which the caller's last call was accepted, where it was and nothing of it came since
abbrev pub just_accepted : ℕ → List Event → Option RequestId
just_accepted caller past = accepted_in (newest_call caller past)

-- ---- requests and descriptors

abbrev pub accepts_for : ℕ → Event → Bool
accepts_for caller (Accept a) = a.by.0 == caller
accepts_for caller _ = false

-- how many requests of the caller were accepted
unfoldable pub accepted : ℕ → List Event → ℕ
accepted caller past = count (accepts_for caller) past

abbrev pub wants_reply : Mode → Bool
wants_reply Reply = true
wants_reply _ = false

abbrev pub is_conversational : Mode → Bool
is_conversational ConvReceives = true
is_conversational ConvSends = true
is_conversational _ = false

-- the event sets the priority of the caller's next request, or uses it up: a request that begins a conversation leaves it for the next
abbrev pub changes_priority : ℕ → ℕ → Event → Bool
changes_priority clients caller (Accept a) = (a.by.0 == caller) && not (is_conversational a.mode)
changes_priority clients caller (Forward f) = caller_of clients f.server.0 == caller
changes_priority clients caller (Priority p) = p.by.0 == caller
changes_priority clients caller _ = false

abbrev pub priority_asked : Option Event → Option (Bool × ℤ)
priority_asked (Some (Priority p)) = Some (p.absolute, p.amount)
priority_asked _ = None

-- the priority that the caller set for its next request, where it set one: absolute, or added to the service's own
unfoldable pub next_priority : ℕ → ℕ → List Event → Option (Bool × ℤ)
next_priority clients caller past = priority_asked (latest (changes_priority clients caller) past)

-- the event makes a descriptor of the caller valid
abbrev pub opens_descriptor : ℕ → Event → Option RequestId
opens_descriptor caller (Accept a) = if (a.by.0 == caller) && wants_reply a.mode then Some a.request else None
opens_descriptor caller _ = None

-- the request whose descriptor the event makes invalid: its reply was taken, it was cancelled, or its tpcall lapsed
abbrev pub closed_in : Event → Option RequestId
closed_in (Answer a) = Some a.request
closed_in (Cancel c) = Some c.request
closed_in (Lapse l) = if l.of_call then slice_get l.requests 0 else None
closed_in _ = None

-- the event makes a descriptor of the caller invalid
abbrev pub closes_descriptor : ℕ → Event → Option RequestId
closes_descriptor caller (Answer a) = if a.by.0 == caller then closed_in (Answer a) else None
closes_descriptor caller (Cancel c) = if c.by.0 == caller then closed_in (Cancel c) else None
closes_descriptor caller (Lapse l) = if l.by.0 == caller then closed_in (Lapse l) else None
closes_descriptor caller _ = None

abbrev pub answers_request : ℕ → Event → Option RequestId
answers_request caller (Answer a) = if a.by.0 == caller then Some a.request else None
answers_request caller _ = None

-- the requests to which no answer was given yet, the oldest first: each holds a reply cell, also one that was cancelled
unfoldable pub unanswered : ℕ → List Event → List RequestId
unanswered caller past = kept (opens_descriptor caller) (answers_request caller) past

-- the requests whose descriptors are open, the oldest first
unfoldable pub open_descriptors : ℕ → List Event → List RequestId
open_descriptors caller past = kept (opens_descriptor caller) (closes_descriptor caller) past

-- callers from 1 to the number of clients are clients
abbrev pub is_client : ℕ → ℕ → Bool
is_client clients caller = nat_le 1 caller && nat_le caller clients

-- how many descriptors a caller may have open: a client 50, a server 16
abbrev pub descriptor_limit : ℕ → ℕ → ℕ
descriptor_limit clients caller = if is_client clients caller then 50 else 16

-- ---- the board and the clock

-- the version of the board that was looked up
abbrev pub version_in : Evidence → Option ℕ
version_in (Version v) = Some v
version_in (AllDown v) = Some v
version_in _ = None

-- 0 is no version that was read
abbrev pub version_of : Outcome → Option ℕ
version_of (BadForward v) = if v == 0 then None else Some v
version_of _ = None

-- the version of the board that the event shows the caller to have read or made
abbrev pub reads : ℕ → ℕ → Event → Option ℕ
reads clients caller (Advertise a) = if a.by.0 == caller then Some a.version else None
reads clients caller (Withdraw w) = if w.by.0 == caller then Some w.version else None
reads clients caller (Accept a) = if a.by.0 == caller then Some a.version else None
reads clients caller (Forward f) = if caller_of clients f.server.0 == caller then Some f.version else None
reads clients caller (End e) = if caller_of clients e.server.0 == caller then version_of e.outcome else None
reads clients caller (Refuse r) = if r.by.0 == caller then version_in r.evidence else None
reads clients caller _ = None

-- the versions that the caller read or made, the newest first
unfoldable pub versions : ℕ → ℕ → List Event → List ℕ
versions clients caller past = filter_map (reads clients caller) past

-- the least version that the caller may still read: the greatest that it read or made, and at least the boot's
abbrev pub least_version : Setup → ℕ → ℕ → List Event → ℕ
least_version setup clients caller past = greatest (boot setup) (versions clients caller past)

abbrev pub tick_of : Evidence → Option ℕ
tick_of (Clock tick) = Some tick
tick_of (Deadline now deadline) = Some now
tick_of _ = None

-- the tick that the event shows the caller to have read or made
abbrev pub tick_in : ℕ → ℕ → Event → Option ℕ
tick_in clients caller (Tick t) = if t.by.0 == caller then Some t.now else None
tick_in clients caller (Start s) = if caller_of clients s.server.0 == caller then Some s.tick else None
tick_in clients caller (StartFailed s) = if caller_of clients s.server.0 == caller then Some s.tick else None
tick_in clients caller (Lapse l) = if l.by.0 == caller then Some l.now else None
tick_in clients caller (Refuse r) = if r.by.0 == caller then tick_of r.evidence else None
tick_in clients caller _ = None

-- the ticks that the caller read or made, the newest first
unfoldable pub ticks : ℕ → ℕ → List Event → List ℕ
ticks clients caller past = filter_map (tick_in clients caller) past

-- the least tick that the caller may still read
abbrev pub tick_floor : ℕ → ℕ → List Event → ℕ
tick_floor clients caller past = greatest 0 (ticks clients caller past)

-- ---- the end of a client

abbrev pub is_leave_of : ℕ → Event → Bool
is_leave_of client (Leave c) = c.0 == client
is_leave_of client _ = false

-- whether the client has left
unfoldable pub has_left : ℕ → List Event → Bool
has_left client past = list_any (is_leave_of client) past

-- the caller gives something up, and no call asked for it
abbrev pub gives_up : ℕ → Event → Bool
gives_up caller (Cancel c) = (c.by.0 == caller) && (c.op == 0)
gives_up caller (Break b) = (b.by.0 == caller) && (b.op == 0)
gives_up caller _ = false

-- whether the client is leaving: it gives up what it still has open
unfoldable pub is_leaving : ℕ → List Event → Bool
is_leaving client past = list_any (gives_up client) past

-- a caller above the clients is a server's, and that has a request in hand
abbrev pub is_serving : ℕ → ℕ → List Event → Bool
is_serving clients caller past = nat_lt clients caller && is_busy (doing (caller - clients) past)

-- the caller may make a call: it is a client that hasn't left and isn't leaving, or its server has a request in hand
abbrev pub is_active : ℕ → ℕ → List Event → Bool
is_active clients caller past = if is_client clients caller then not (has_left caller past) && not (is_leaving caller past) else is_serving clients caller past

-- the caller may give up what it has open, without a call: it is a client that hasn't left, or its server has no request in hand
abbrev pub may_give_up : ℕ → ℕ → List Event → Bool
may_give_up clients caller past = if is_client clients caller then not (has_left caller past) else nat_lt clients caller && not (is_busy (doing (caller - clients) past))

-- each client has left
abbrev pub AllLeft : ℕ → List Event → Type 0
AllLeft clients past = (client : ℕ) → 0 < client → client < clients + 1 → has_left client past ≡ true
