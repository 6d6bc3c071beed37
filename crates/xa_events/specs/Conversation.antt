-- A conversation, read off the events of its ends: which end an event means, what an end sent and received, who has control, and how an end is told
-- that the other ended (XATMI, tpconnect, tpsend, tprecv and tpdiscon; that a death is TPEV_DISCONIMM, and NOMEM, are this project's own).
use Rattle.std.specs.Prelude.{◌≡◌, ◌⊎◌, ℕ, ℤ, pos, ◌+◌, ◌==◌, ◌&&◌, ◌||◌, not, Bool, true, false, List, [], ◌∷◌, Option, Some, None, if◌then◌else◌}
use Rattle.std.specs.List.{list_any, filter_map}
use Rattle.xa_types.specs.declared.ids.RequestId.{RequestId}
use Rattle.xa_types.specs.declared.call.Mode.{Mode}
use Rattle.xa_types.specs.declared.call.Mode.TheVariants.{ConvReceives, ConvSends}
use Rattle.xa_types.specs.declared.data.Data.{Data}
use Rattle.xa_types.specs.declared.data.Data.TheVariants.{Absent}
use Rattle.xa_types.specs.declared.fault.ConvEvent.{ConvEvent}
use Rattle.xa_types.specs.declared.fault.ConvEvent.TheVariants.{DisconImm, SvcErr, SvcFail, SvcSucc, NoMemory}
use Rattle.xa_types.specs.Kind.{kind_of}
use Rattle.xa_events.specs.declared.event.Event.{Event}
use Rattle.xa_events.specs.declared.event.Event.TheVariants.{Accept, Take, Sweep, End, Refuse, Send, Receive, Break}
use Rattle.xa_events.specs.declared.event.Item.{Item}
use Rattle.xa_events.specs.declared.event.Item.TheVariants.{Message, Ending}
use Rattle.xa_events.specs.declared.event.Evidence.{Evidence}
use Rattle.xa_events.specs.declared.event.Evidence.TheVariants.{Ended}
use Rattle.xa_events.specs.declared.event.Outcome.{Outcome}
use Rattle.xa_events.specs.declared.event.Outcome.TheVariants.{Returned, Failed, BadReturn, BadForward, Died, Starved}
use Rattle.xa_events.specs.Words.{kept, has, same_request}
use Rattle.xa_events.specs.State.{caller_of}
use Rattle.xa_events.specs.Answers.{has_kind}
use Rattle.xa_events.specs.Caller.{is_conversational}

-- the end of the caller that began the conversation, and the end of the service
pub data Side : Type 0 where
  Originator : Side
  Service : Side

abbrev pub other_side : Side → Side
other_side Originator = Service
other_side Service = Originator

abbrev pub same_side : Side → Side → Bool
same_side Originator Originator = true
same_side Service Service = true
same_side _ _ = false

abbrev pub is_service : Side → Bool
is_service side = same_side side Service

-- ---- which end has control at first

-- TPSENDONLY of tpconnect: the service receives first, so its originator has control
abbrev pub gives_first : Side → Mode → Bool
gives_first Originator ConvReceives = true
gives_first Service ConvSends = true
gives_first side mode = false

abbrev pub begins_with : Side → RequestId → Event → Bool
begins_with side request (Accept a) = same_request a.request request && gives_first side a.mode
begins_with side request _ = false

-- whether the conversation began with control at that end
unfoldable pub is_begun : Side → RequestId → List Event → Bool
is_begun side request past = list_any (begins_with side request) past

-- ---- connections: the conversations that a caller originated

abbrev pub opens_connection : ℕ → Event → Option RequestId
opens_connection caller (Accept a) = if (a.by.0 == caller) && is_conversational a.mode then Some a.request else None
opens_connection caller _ = None

abbrev pub is_ending : Item → Bool
is_ending (Message payload passes) = false
is_ending (Ending event code payload) = true

-- the originator's conversation of which a tpsend found the other end's ending; descriptor 0 is the service's end
abbrev pub ended_in : RequestId → Evidence → Option RequestId
ended_in named (Ended descriptor event code) = if descriptor == 0 then None else Some (record { caller = named.caller; number = descriptor })
ended_in named evidence = None

abbrev pub closes_connection : ℕ → Event → Option RequestId
closes_connection caller (Receive r) = if (r.by.0 == caller) && is_ending r.item then Some r.request else None
closes_connection caller (Break b) = if b.by.0 == caller then Some b.request else None
closes_connection caller (Refuse r) = if r.by.0 == caller then ended_in (record { caller = r.by; number = 0 }) r.evidence else None
closes_connection caller _ = None

-- the conversations of which the originator's end is open at that caller, the oldest first
unfoldable pub connections : ℕ → List Event → List RequestId
connections caller past = kept (opens_connection caller) (closes_connection caller) past

-- ---- which end an event means

abbrev pub break_in : ℕ → Event → Option RequestId
break_in caller (Break b) = if b.by.0 == caller then Some b.request else None
break_in caller _ = None

-- the conversations that the caller broke
unfoldable pub broken : ℕ → List Event → List RequestId
broken caller past = filter_map (break_in caller) past

abbrev pub side_from : ℕ → RequestId → List RequestId → Side
side_from caller request breaks = if (caller == request.caller.0) && not (has request breaks) then Originator else Service

-- the end that an event by that caller means: the originator's, until it breaks the conversation, and else the service's
abbrev pub side_of : ℕ → RequestId → List Event → Side
side_of caller request past = side_from caller request (broken caller past)

-- ---- what an end did

-- how many messages it sent and received; and of the messages that passed control the last: whether it came to this end
pub record EndDone : Type 0 where
  pub sent : ℕ
  pub received : ℕ
  pub turn : Option Bool

abbrev pub after_send : Bool → EndDone → EndDone
after_send passes done = record { sent = done.sent + 1; received = done.received; turn = if passes then Some false else done.turn }

abbrev pub after_item : Item → EndDone → EndDone
after_item (Message payload passes) done = record { sent = done.sent; received = done.received + 1; turn = if passes then Some true else done.turn }
after_item (Ending event code payload) done = done

-- the event is by that caller, of that conversation, and means that end
abbrev pub is_at_end : ℕ → Side → RequestId → ℕ → RequestId → List RequestId → Bool
is_at_end caller side request by named breaks = (by == caller) && (same_request named request && same_side side (side_from caller request breaks))

abbrev pub done_after : ℕ → Side → RequestId → Event → List RequestId → EndDone → EndDone
done_after caller side request (Send s) breaks done = if is_at_end caller side request s.by.0 s.request breaks then after_send s.passes done else done
done_after caller side request (Receive r) breaks done = if is_at_end caller side request r.by.0 r.request breaks then after_item r.item done else done
done_after caller side request _ breaks done = done

-- what that caller did at that end of the conversation
unfoldable pub end_done : ℕ → Side → RequestId → List Event → EndDone
end_done caller side request [] = record { sent = 0; received = 0; turn = None }
end_done caller side request (e ∷ past) = done_after caller side request e (broken caller past) (end_done caller side request past)

-- an end has control, or hasn't, by the last message that passed it, or where none did by how the conversation began; Began says of an end that it had
-- control at first
abbrev pub TurnIs : Bool → Side → Option Bool → (Side → Type 0) → Type 0
TurnIs control side turn Began = (turn ≡ Some control) ⊎ ((turn ≡ None) × Began (if control then side else other_side side))

-- ---- the service's end in hand

abbrev pub ends_hand : Evidence → Bool
ends_hand (Ended descriptor event code) = descriptor == 0
ends_hand evidence = false

abbrev pub hand_after : ℕ → ℕ → Event → List RequestId → Bool → Bool
hand_after clients caller (Take t) breaks closed = if caller_of clients t.server.0 == caller then false else closed
hand_after clients caller (Receive r) breaks closed = ((r.by.0 == caller) && (is_ending r.item && is_service (side_from caller r.request breaks))) || closed
hand_after clients caller (Refuse r) breaks closed = ((r.by.0 == caller) && ends_hand r.evidence) || closed
hand_after clients caller _ breaks closed = closed

-- whether the service's end of the request that the caller's server took last is closed: it was told the other end's ending
unfoldable pub is_hand_closed : ℕ → ℕ → List Event → Bool
is_hand_closed clients caller [] = false
is_hand_closed clients caller (e ∷ past) = hand_after clients caller e (broken caller past) (is_hand_closed clients caller past)

-- ---- messages and endings

-- the n-th message that the end sent, counted from 0, has that payload, and passes control or doesn't
abbrev pub IsSent : Side → RequestId → ℕ → Data → Bool → Event → List Event → Type 0
IsSent side request n payload passes (Send s) before = (same_request s.request request ≡ true) × (side_of s.by.0 request before ≡ side) × ((end_done s.by.0 side request before).sent ≡ n) × (s.payload ≡ payload) × (s.passes ≡ passes)
IsSent side request n payload passes _ before = ⊥

-- the event, its code and its data, that tell of an ending
abbrev pub Told : Type 0
Told = ConvEvent × ℤ × Data

abbrev pub disconnected : Told
disconnected = (DisconImm, pos 0, Absent)

abbrev pub service_error : Told
service_error = (SvcErr, pos 0, Absent)

-- the event at the originator, by how the request ended and whether the service had control then
abbrev pub event_of : Outcome → Bool → Told
event_of (Returned code payload) control = if control then (SvcSucc, code, payload) else service_error
event_of (Failed code payload) control = if control || not (has_kind (kind_of payload)) then (SvcFail, code, payload) else service_error
event_of BadReturn control = service_error
event_of (BadForward version) control = service_error
event_of Died control = disconnected
event_of Starved control = (NoMemory, pos 0, Absent)

-- the originator is told so of the service's end that P holds, with control of the service or without
abbrev pub ToldByEnd : Outcome → Option Bool → (Side → Type 0) → (Told → Type 0) → Type 0
ToldByEnd outcome turn Began P = (TurnIs true Service turn Began × P (event_of outcome true)) ⊎ (TurnIs false Service turn Began × P (event_of outcome false))

-- the event closes that end, which had sent n messages before, and the other end is told so of it that P holds
abbrev pub IsClosing : ℕ → Side → RequestId → ℕ → (Side → Type 0) → (Told → Type 0) → Event → List Event → Type 0
IsClosing clients Service request n Began P (End e) before = (same_request e.request request ≡ true) × ((end_done (caller_of clients e.server.0) Service request before).sent ≡ n)
    × ToldByEnd e.outcome (end_done (caller_of clients e.server.0) Service request before).turn Began P
IsClosing clients Service request n Began P (Sweep x) before = (same_request x.request request ≡ true) × (n ≡ 0) × P disconnected
IsClosing clients Originator request n Began P (Break b) before = (same_request b.request request ≡ true) × ((end_done b.by.0 Originator request before).sent ≡ n) × P disconnected
IsClosing clients side request n Began P _ before = ⊥

-- what an end finds next of the other, of which it has received n messages: the next message, or that the other end closed behind these; Stands says of
-- events that one of them stands before
abbrev pub Finds : ℕ → Side → RequestId → ℕ → (Side → Type 0) → ((Event → List Event → Type 0) → Type 0) → Item → Type 0
Finds clients side request n Began Stands (Message payload passes) = Stands (IsSent side request n payload passes)
Finds clients side request n Began Stands (Ending event code payload) = Stands (IsClosing clients side request n Began (λ told. told ≡ (event, code, payload)))

-- ---- what a caller knows of its end, by its own events and what stands before

abbrev pub ControlIs : Bool → ℕ → RequestId → List Event → (Side → Type 0) → Type 0
ControlIs control caller request own Began = TurnIs control (side_of caller request own) (end_done caller (side_of caller request own) request own).turn Began

abbrev pub NextIs : ℕ → ℕ → RequestId → List Event → (Side → Type 0) → ((Event → List Event → Type 0) → Type 0) → Item → Type 0
NextIs clients caller request own Began Stands item = Finds clients (other_side (side_of caller request own)) request (end_done caller (side_of caller request own) request own).received Began Stands item

-- a caller with control finds that the other end closed, with that event
abbrev pub EndedIs : ℕ → ℕ → RequestId → ConvEvent → List Event → (Side → Type 0) → ((Event → List Event → Type 0) → Type 0) → Type 0
EndedIs clients caller request event own Began Stands = ControlIs true caller request own Began
    × Stands (IsClosing clients (other_side (side_of caller request own)) request (end_done caller (side_of caller request own) request own).received Began (λ told. told.0 ≡ event))
