-- What an end of a conversation did, as it is counted, and what an ending is compared with.
use Rattle.std.specs.Prelude.{◌≡◌, ◌==◌, ◌&&◌, ◌<◌, ℕ, Bool, true, false, List}
use Rattle.xa_types.specs.declared.ids.RequestId.{RequestId}
use Rattle.xa_events.specs.declared.event.Event.{Event}
use Rattle.xa_events.specs.declared.event.Event.TheVariants.{Break}
use Rattle.xa_events.specs.declared.event.Item.{Item}
use Rattle.xa_events.specs.declared.event.Item.TheVariants.{Message, Ending}
use Rattle.xa_events.specs.Words.{same_request, Was}
use Rattle.xa_events.specs.Cases.{BeganAt}
use Rattle.xa_types.specs.declared.fault.ConvEvent.{ConvEvent}
use Rattle.xa_events.specs.Conversation.{Side, EndDone, end_done, is_begun, other_side, side_of, IsClosing, Told}
use Rattle.xa_events.specs.Conversation.Side.{Originator, Service}
use Rattle.xa_machine.specs.declared.talking.Done.{Done}
use Rattle.xa_machine.specs.declared.talking.Begun.{Begun}
use Rattle.xa_machine.specs.declared.meeting.Sender.{Sender}

-- the service's end, or the originator's
abbrev pub side_at : Bool → Side
side_at true = Service
side_at false = Originator

-- what is counted of an end
abbrev pub counted : Done → EndDone
counted done = record { sent = done.sent; received = done.received; turn = done.turn }

-- fewer than n messages were sent, and fewer received
pub record IsFew (done : Done) (n : ℕ) : Type 0 where
  pub sent : done.sent < n
  pub received : done.received < n

-- the caller breaks that conversation
abbrev pub breaks : ℕ → RequestId → Event → Bool
breaks caller request (Break b) = (b.by.0 == caller) && same_request request b.request
breaks caller request _ = false

-- how the conversation began, as the events tell
pub record TellsBegun (begun : Begun) (request : RequestId) (past : List Event) : Type 0 where
  pub originator : begun.originator ≡ is_begun Originator request past
  pub service : begun.service ≡ is_begun Service request past

-- the item is an ending, and tells that: the whole of it, or its event alone
abbrev pub Tells : Bool → Item → Told → Type 0
Tells whole (Message payload passes) told = ⊥
Tells true (Ending event code payload) told = told ≡ (event, code, payload)
Tells false (Ending event code payload) told = told.0 ≡ event

-- the end is the other one, and sent as many messages as that caller received
pub record IsOther (caller : ℕ) (request : RequestId) (past : List Event) (sender : Sender) : Type 0 where
  pub side : side_at sender.service ≡ other_side (side_of caller request past)
  pub same : sender.request ≡ request
  pub sent : sender.sent ≡ (end_done caller (side_of caller request past) request past).received

-- the other end closed behind the messages that the caller received, with that event
abbrev pub FindsClosed : ℕ → ℕ → RequestId → ConvEvent → List Event → Type 0
FindsClosed clients caller request event past =
    Was (IsClosing clients (other_side (side_of caller request past)) request (end_done caller (side_of caller request past) request past).received (BeganAt request past) (λ told. told.0 ≡ event)) past
