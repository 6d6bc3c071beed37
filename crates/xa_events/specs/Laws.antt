-- Laws of every run, by counts in the list of events (this project's own). No law uses a case. With the cases they share what is read off one event
-- by its kind, the reply to an outcome, and the names of a conversation's two ends. `LawOfServers` and the last part are about readings of the cases
-- themselves: what a server does, whether it is gone or was shut down, and whether a queue is closed.
use Rattle.std.specs.List.{list_any, filter_map}
use Rattle.std.specs.Prelude.{◌≡◌, ℕ, ◌+◌, ◌-◌, ◌<◌, ◌≤◌, ◌==◌, ◌||◌, ◌&&◌, Bool, true, false, List, ◌∷◌, ◌⊎◌, Option, Some, None, [], ◌++◌, length, if◌then◌else◌}
use Rattle.xa_types.specs.declared.ids.RequestId.{RequestId}
use Rattle.xa_events.specs.declared.event.Event.{Event}
use Rattle.xa_events.specs.declared.event.Event.TheVariants.{Advertise, Withdraw, Accept, Take, Forward, End, Answer, Lapse, Refuse, Send, Receive}
use Rattle.xa_events.specs.declared.event.Evidence.TheVariants.{Deadline}
use Rattle.xa_events.specs.declared.event.Item.{Item}
use Rattle.xa_events.specs.declared.event.Item.TheVariants.{Message as MessageItem, Ending as EndingItem}
use Rattle.xa_types.specs.declared.data.Data.{Data}
use Rattle.xa_types.specs.declared.call.Mode.{Mode}
use Rattle.xa_types.specs.declared.call.Mode.TheVariants.{ConvReceives, ConvSends}
use Rattle.xa_events.specs.Conversation.{Side, other_side, same_side}
use Rattle.xa_events.specs.Conversation.Side.{Originator, Service}
use Rattle.xa_events.specs.declared.event.Replied.{Replied}
use Rattle.xa_events.specs.declared.event.Doing.TheVariants.{Off}
use Rattle.xa_events.specs.Words.{latest, count, same_request, has, greatest, from_each, AtEach}
use Rattle.xa_types.specs.declared.fault.Fault.TheVariants.{OType}
use Rattle.xa_types.specs.declared.reply.Answer.TheVariants.{Error}
use Rattle.xa_events.specs.Answers.{reply_of, has_payload}
use Rattle.xa_events.specs.Caller.{closed_in, version_of, version_in}
use Rattle.xa_events.specs.Request.{is_accept_of, is_take_of, is_forward_of, is_end_of, is_sweep_of, is_settled_by, is_entry_of, Settlement, settlement_in}
use Rattle.xa_events.specs.Clock.{is_tick_to}
use Rattle.xa_events.specs.Queue.{is_closed}
use Rattle.xa_events.specs.State.{caller_of}
use Rattle.xa_events.specs.Server.{doing, was_shut_down, is_gone}

-- the event moves an accepted request on: from its queue to a server, to another queue, or to its end
abbrev pub moves_on : RequestId → Event → Bool
moves_on request e = is_take_of request e || (is_forward_of request e || is_settled_by request e)

-- a request is accepted once; what moves it on finds it accepted and not settled; a take or a sweep finds it at a queue, as often taken as
-- forwarded, and a forward or an end finds it at a server, once more taken
pub record OnceInTurn (e : Event) (before : List Event) : Type 0 where
  pub new : (request : RequestId) → is_accept_of request e ≡ true → count (is_accept_of request) before ≡ 0
  pub known : (request : RequestId) → moves_on request e ≡ true → count (is_accept_of request) before ≡ 1
  pub unsettled : (request : RequestId) → moves_on request e ≡ true → count (is_settled_by request) before ≡ 0
  pub waiting : (request : RequestId) → is_take_of request e || is_sweep_of request e ≡ true → count (is_take_of request) before ≡ count (is_forward_of request) before
  pub held : (request : RequestId) → is_forward_of request e || is_end_of request e ≡ true → count (is_take_of request) before ≡ count (is_forward_of request) before + 1

abbrev pub LawOfEnds : List Event → Type 0
LawOfEnds past = AtEach OnceInTurn past

-- a tpcall that lapses has sent one request
abbrev pub IsOfOne : Event → Type 0
IsOfOne (Lapse l) = l.of_call ≡ true → length l.requests ≡ 1
IsOfOne _ = Unit {0}

-- what makes the descriptor of a request invalid finds the request accepted, and the descriptor not yet invalid
pub record EndsOnce (e : Event) (before : List Event) : Type 0 where
  pub single : IsOfOne e
  pub known : (request : RequestId) → closed_in e ≡ Some request → count (is_accept_of request) before ≡ 1
  pub once : (request : RequestId) → closed_in e ≡ Some request → has request (filter_map closed_in before) ≡ false

-- an answer is of a request of its own caller, which was settled once; it is the reply to that, or TPEOTYPE where data came back
pub record AnswersSettled (a : Replied) (before : List Event) : Type 0 where
  pub own : a.request.caller ≡ a.by
  pub settlement : Settlement
  pub one : filter_map (settlement_in a.request) before ≡ settlement ∷ []
  pub reply : (a.answer ≡ reply_of settlement) ⊎ ((a.answer ≡ Error OType) × (has_payload (reply_of settlement) ≡ true))

abbrev pub IsSettled : Event → List Event → Type 0
IsSettled (Answer a) before = AnswersSettled a before
IsSettled _ before = Unit {0}

abbrev pub LawOfAnswers : List Event → Type 0
LawOfAnswers past = AtEach (λ e before. EndsOnce e before × IsSettled e before) past

-- whether the event changes the board
abbrev pub is_change : Event → Bool
is_change (Advertise a) = true
is_change (Withdraw w) = true
is_change _ = false

-- the version of the board that the caller made, or that it names
abbrev pub names_version : ℕ → ℕ → Event → Option ℕ
names_version clients caller (Advertise a) = if a.by.0 == caller then Some a.version else None
names_version clients caller (Withdraw w) = if w.by.0 == caller then Some w.version else None
names_version clients caller (Accept a) = if a.by.0 == caller then Some a.version else None
names_version clients caller (Forward f) = if caller_of clients f.server.0 == caller then Some f.version else None
names_version clients caller (End e) = if caller_of clients e.server.0 == caller then version_of e.outcome else None
names_version clients caller (Refuse r) = if r.by.0 == caller then version_in r.evidence else None
names_version clients caller _ = None

-- what a caller reads of the board is no older than what it read before, and not of the future
pub record ReadsForward (clients : ℕ) (e : Event) (before : List Event) : Type 0 where
  pub rises : (caller version : ℕ) → names_version clients caller e ≡ Some version → greatest 0 (filter_map (names_version clients caller) before) ≤ version
  pub stands : (caller version : ℕ) → names_version clients caller e ≡ Some version → version ≤ count is_change (e ∷ before)

abbrev pub LawOfVersions : ℕ → List Event → Type 0
LawOfVersions clients past = AtEach (ReadsForward clients) past

-- a call gave up at a tick that was shown, and not before its deadline
abbrev pub GaveUpAt : ℕ → ℕ → List Event → Type 0
GaveUpAt now deadline before = (deadline ≤ now) × ((now == 0) || list_any (is_tick_to now) before ≡ true)

abbrev pub IsTimely : Event → List Event → Type 0
IsTimely (Lapse l) before = GaveUpAt l.now l.deadline before
IsTimely (Refuse r) before = (now deadline : ℕ) → r.evidence ≡ Deadline now deadline → GaveUpAt now deadline before
IsTimely _ before = Unit {0}

abbrev pub LawOfTimes : List Event → Type 0
LawOfTimes past = AtEach IsTimely past

-- a server that was shut down or is given up is off
abbrev pub LawOfServers : List Event → Type 0
LawOfServers past = (server : ℕ) → (was_shut_down server past ≡ true) ⊎ (is_gone server past ≡ true) → doing server past ≡ Off

-- ---- conversations

-- a message: its data, and whether it passes control
abbrev pub Message : Type 0
Message = Data × Bool

-- the caller's own server was given the request
abbrev pub is_taken_by : ℕ → ℕ → RequestId → Event → Bool
is_taken_by clients caller request (Take t) = (caller_of clients t.server.0 == caller) && same_request t.request request
is_taken_by clients caller request _ = false

-- the end that an event by that caller is by: the service's where its own server was given the request before, else the originator's
abbrev pub end_by : ℕ → ℕ → RequestId → List Event → Side
end_by clients caller request before = if list_any (is_taken_by clients caller request) before then Service else Originator

-- the event is by that end of that conversation
abbrev pub is_by : ℕ → Side → RequestId → ℕ → RequestId → List Event → Bool
is_by clients side request by named before = same_request named request && same_side side (end_by clients by request before)

abbrev pub sent_in : ℕ → Side → RequestId → Event → List Event → List Message
sent_in clients side request (Send s) before = if is_by clients side request s.by.0 s.request before then (s.payload, s.passes) ∷ [] else []
sent_in clients side request _ before = []

abbrev pub item_in : Item → List Message
item_in (MessageItem payload passes) = (payload, passes) ∷ []
item_in (EndingItem event code payload) = []

abbrev pub heard_in : ℕ → Side → RequestId → Event → List Event → List Message
heard_in clients side request (Receive r) before = if is_by clients side request r.by.0 r.request before then item_in r.item else []
heard_in clients side request _ before = []

-- the messages that the end sent, and those that it received, the oldest first
unfoldable pub messages : ℕ → Side → RequestId → List Event → List Message
messages clients side request past = from_each (sent_in clients side request) past

unfoldable pub heard : ℕ → Side → RequestId → List Event → List Message
heard clients side request past = from_each (heard_in clients side request) past

-- what an end received is the first of what the other end sent: the n-th is the n-th, and comes after it
abbrev pub InOrder : ℕ → List Event → Type 0
InOrder clients past = (side : Side) (request : RequestId) → (rest : List Message) × (messages clients (other_side side) request past ≡ heard clients side request past ++ rest)

-- what isn't by the service's end is by the request's caller
abbrev pub IsOfEnd : ℕ → ℕ → RequestId → List Event → Type 0
IsOfEnd clients by request before = end_by clients by request before ≡ Originator → by ≡ request.caller.0

-- the two ends alone send and receive
abbrev pub ByAnEnd : ℕ → Event → List Event → Type 0
ByAnEnd clients (Send s) before = IsOfEnd clients s.by.0 s.request before
ByAnEnd clients (Receive r) before = IsOfEnd clients r.by.0 r.request before
ByAnEnd clients _ before = Unit {0}

abbrev pub LawOfMessages : ℕ → List Event → Type 0
LawOfMessages clients past = AtEach (λ e before. ByAnEnd clients e before × InOrder clients (e ∷ before)) past

-- the end has received all that the other end sent
abbrev pub HasHeardAll : ℕ → Side → RequestId → List Event → Type 0
HasHeardAll clients side request before = messages clients (other_side side) request before ≡ heard clients side request before

-- an end that receives an ending has received all that the other end sent
abbrev pub HeardAll : ℕ → Event → List Event → Type 0
HeardAll clients (Receive r) before = item_in r.item ≡ [] → HasHeardAll clients (end_by clients r.by.0 r.request before) r.request before
HeardAll clients _ before = Unit {0}

abbrev pub LawOfEndings : ℕ → List Event → Type 0
LawOfEndings clients past = AtEach (HeardAll clients) past

abbrev pub mode_in : RequestId → Event → Option Mode
mode_in request (Accept a) = if same_request a.request request then Some a.mode else None
mode_in request _ = None

-- the mode that gives that end control at first: under TPSENDONLY of tpconnect the service receives
abbrev pub mode_giving : Side → Mode
mode_giving Originator = ConvReceives
mode_giving Service = ConvSends

-- the conversation began once, with control at that end
abbrev pub Began : Side → RequestId → List Event → Type 0
Began side request before = filter_map (mode_in request) before ≡ mode_giving side ∷ []

-- how many of the messages pass control
abbrev pub passing : List Message → ℕ
passing sent = count (λ (message : Message). message.1) sent

-- the messages that pass control come from the two ends in turn, beginning with the end that had it, and each but the first comes behind the receipt of
-- the one before
abbrev pub TakesTurns : ℕ → Side → RequestId → List Event → Type 0
TakesTurns clients side request before =
    (Began side request before × (passing (messages clients side request before) ≡ passing (messages clients (other_side side) request before)) × (passing (heard clients side request before) ≡ passing (messages clients (other_side side) request before)))
    ⊎ (Began (other_side side) request before × (passing (messages clients (other_side side) request before) ≡ passing (messages clients side request before) + 1) × (passing (heard clients side request before) ≡ passing (messages clients (other_side side) request before)))

abbrev pub InTurn : ℕ → Event → List Event → Type 0
InTurn clients (Send s) before = s.passes ≡ true → TakesTurns clients (end_by clients s.by.0 s.request before) s.request before
InTurn clients _ before = Unit {0}

abbrev pub LawOfTurns : ℕ → List Event → Type 0
LawOfTurns clients past = AtEach (InTurn clients) past

-- ---- what lets each event ask its own home and its own worker alone

-- a server that is gone advertises nothing; callers behind the clients are the servers'
abbrev pub IsOfLeft : ℕ → Event → List Event → Type 0
IsOfLeft clients (Advertise a) before = clients < a.by.0 → is_gone (a.by.0 - clients) before ≡ false
IsOfLeft clients _ before = Unit {0}

abbrev pub LawOfGone : ℕ → List Event → Type 0
LawOfGone clients past = AtEach (IsOfLeft clients) past

-- nothing is sent to a queue that is closed
abbrev pub IsSentOpen : Event → List Event → Type 0
IsSentOpen (Accept a) before = is_closed a.queue.0 before ≡ false
IsSentOpen (Forward f) before = is_closed f.queue.0 before ≡ false
IsSentOpen _ before = Unit {0}

abbrev pub LawOfClosed : List Event → Type 0
LawOfClosed past = AtEach IsSentOpen past

-- how often a request was forwarded, by the event that sent it last
abbrev pub hop_in : Option Event → ℕ
hop_in (Some (Forward f)) = f.hop
hop_in _ = 0

-- the last entry of a request says how often it was forwarded
abbrev pub LawOfEntries : List Event → Type 0
LawOfEntries past = (request : RequestId) → hop_in (latest (is_entry_of request) past) ≡ count (is_forward_of request) past
