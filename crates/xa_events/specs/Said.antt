-- What a caller was told of a call: the reply that the call's last event shows (XATMI, tpcall and tpgetrply, tprecv).
use Rattle.std.specs.Prelude.{ℕ, pos, ◌==◌, ◌&&◌, Bool, List, [], ◌∷◌, if◌then◌else◌}
use Rattle.xa_types.specs.declared.call.Mode.{Mode}
use Rattle.xa_types.specs.declared.call.Mode.TheVariants.{NoReply}
use Rattle.xa_types.specs.declared.data.Data.TheVariants.{Absent}
use Rattle.xa_types.specs.declared.fault.Fault.{Fault}
use Rattle.xa_types.specs.declared.fault.Fault.TheVariants.{Time, Block}
use Rattle.xa_types.specs.declared.fault.ConvEvent.TheVariants.{SendOnly}
use Rattle.xa_types.specs.declared.reply.Reply.{Reply}
use Rattle.xa_types.specs.declared.reply.Reply.TheVariants.{Done, Descriptor, Now, Answered as AnsweredReply, Message as MessageReply, Event as EventReply, Fault as FaultReply}
use Rattle.xa_events.specs.declared.event.Event.{Event}
use Rattle.xa_events.specs.declared.event.Event.TheVariants.{Accept, Tick, Answer, Lapse, Refuse, NotYet, Receive}
use Rattle.xa_events.specs.declared.event.Replied.{Replied}
use Rattle.xa_events.specs.declared.event.Item.{Item}
use Rattle.xa_events.specs.declared.event.Item.TheVariants.{Message, Ending}
use Rattle.xa_events.specs.declared.event.Evidence.{Evidence}
use Rattle.xa_events.specs.declared.event.Evidence.TheVariants.{Ended}
use Rattle.xa_events.specs.Caller.{is_call_of, op_in, last_op}

abbrev pub is_op : ℕ → ℕ → Event → Bool
is_op caller op e = is_call_of caller e && (op_in e == op)

-- the descriptor is the request's number, and 0 where no reply comes
abbrev pub descriptor_given : Mode → ℕ → ℕ
descriptor_given NoReply number = 0
descriptor_given mode number = number

-- the descriptor that an answer tells: 0 where the call that is answered also sent the request, as tpcall does, and else the request's number
abbrev pub descriptor_of : Replied → List Event → ℕ
descriptor_of a before = if last_op a.by.0 before == a.op then 0 else a.request.number

-- a tpsend that finds the other end's ending is told the event, without data
abbrev pub refusal_reply : Fault → Evidence → Reply
refusal_reply fault (Ended descriptor event code) = EventReply event (pos 0) Absent
refusal_reply fault evidence = FaultReply fault

abbrev pub item_reply : Item → Reply
item_reply (Message payload passes) = if passes then EventReply SendOnly (pos 0) payload else MessageReply payload
item_reply (Ending event code payload) = EventReply event code payload

-- what the event tells of its call, by the events before it
abbrev pub reply_shown_by : Event → List Event → Reply
reply_shown_by (Accept a) before = Descriptor (descriptor_given a.mode a.request.number)
reply_shown_by (Tick t) before = Now t.now
reply_shown_by (Answer a) before = AnsweredReply (descriptor_of a before) a.answer
reply_shown_by (Lapse l) before = FaultReply Time
reply_shown_by (Refuse r) before = refusal_reply r.fault r.evidence
reply_shown_by (NotYet n) before = FaultReply Block
reply_shown_by (Receive r) before = item_reply r.item
reply_shown_by _ before = Done

-- what the caller was told of its call with that number, by the newest event of the call
unfoldable pub reply_at : List Event → ℕ → ℕ → Reply
reply_at [] caller op = Done
reply_at (e ∷ past) caller op = if is_op caller op e then reply_shown_by e past else reply_at past caller op
