-- The routines that make calls, RELAY, ADV and CHAT: what they say first, and what they say to the REPLY (this project's own).
use Rattle.std.specs.Prelude.{ℕ, ◌+◌, ◌==◌, ◌≤◌, ◌&&◌, nat_le, nat_lt, reverse, Bool, true, false, if◌then◌else◌, pos, Option, Some, None, List, [], ◌∷◌, ◌++◌, length, take, drop, codes}
use Rattle.xa_types.specs.declared.data.Data.{Data}
use Rattle.xa_types.specs.declared.data.Data.TheVariants.{Absent, Octet, Struct}
use Rattle.xa_types.specs.declared.call.Rval.TheVariants.{Success, Fail}
use Rattle.xa_types.specs.declared.call.CallFlags.{CallFlags}
use Rattle.xa_types.specs.declared.call.Direction.TheVariants.{Neither}
use Rattle.xa_types.specs.declared.call.Mode.{Mode}
use Rattle.xa_types.specs.declared.call.Mode.TheVariants.{ConvSends}
use Rattle.xa_types.specs.declared.call.Op.{Op}
use Rattle.xa_types.specs.declared.call.Op.TheVariants.{Call, Send, Receive, Advertise, Unadvertise}
use Rattle.xa_types.specs.declared.fault.Fault.TheVariants.{SvcFail}
use Rattle.xa_types.specs.declared.fault.ConvEvent.TheVariants.{SendOnly}
use Rattle.xa_types.specs.declared.reply.Answer.{Answer}
use Rattle.xa_types.specs.declared.reply.Answer.TheVariants as answers
use Rattle.xa_types.specs.declared.reply.Reply.{Reply}
use Rattle.xa_types.specs.declared.reply.Reply.TheVariants as replies
use Rattle.xa_types.specs.Fault.{fault_text}
use Rattle.xa_frame.specs.declared.frame.Body.{Body}
use Rattle.xa_frame.specs.declared.frame.Body.TheVariants.{Op as OpBody, Return}
use Rattle.xa_child.specs.Texts.{space_in}
pub use Rattle.xa_child.specs.declared.doing.Doing.{Doing}
use Rattle.xa_child.specs.declared.doing.Doing.TheVariants.{Waits, Relays, Advertises, Receives, SendsFirst, SendsLast}

-- what a routine says, and what it waits for behind that
pub record Deed : Type 0 where
  pub says : Body
  pub doing : Doing

-- it is done with its request
abbrev pub done_by : Body → Deed
done_by body = record { says = body; doing = Waits }

abbrev pub no_flags : CallFlags
no_flags = record { no_block = false; no_time = false; no_reply = false; no_tran = false; sig_restart = false }

-- ---- RELAY

-- a tpcall of that service with that text
abbrev pub call_of : List ℕ → List ℕ → Op
call_of service text = Call (record { service = service; payload = Octet text; flags = no_flags; expect = None; direction = Neither })

abbrev pub relayed_text : Option ℕ → List ℕ → Deed
relayed_text None octets = done_by (Return Success (pos 0) (Octet octets))
relayed_text (Some place) octets = record { says = OpBody (call_of (take place octets) (drop (place + 1) octets)); doing = Relays }

-- a text with a space goes to the service before the space; other data comes back
unfoldable pub relayed : Data → Deed
relayed (Octet octets) = relayed_text (space_in octets) octets
relayed payload = done_by (Return Success (pos 0) payload)

-- a fault's name
abbrev pub named_fault : List ℕ → Body
named_fault name = Return Fail (pos 1) (Octet name)

abbrev pub relayed_answer : Answer → Body
relayed_answer (answers.Success code payload) = Return Success code payload
relayed_answer (answers.Failed code payload) = named_fault (fault_text SvcFail)
relayed_answer (answers.Error fault) = named_fault (fault_text fault)

-- ---- ADV

-- a word of 1 to 255 octets without a space
abbrev pub is_none : Option ℕ → Bool
is_none None = true
is_none (Some place) = false

abbrev pub is_word : List ℕ → Bool
is_word octets = nat_le 1 (length octets) && (nat_le (length octets) 255 && is_none (space_in octets))

abbrev pub two_words : Option ℕ → List ℕ → Option Op
two_words None octets = None
two_words (Some place) octets = if nat_le 1 place && is_word (drop (place + 1) octets) then Some (Advertise (take place octets) (drop (place + 1) octets)) else None

abbrev pub one_word : List ℕ → Option Op
one_word octets = if is_word octets then Some (Unadvertise octets) else None

abbrev pub change_by : ℕ → List ℕ → Option Op
change_by sign octets = if sign == 43 then two_words (space_in octets) octets else (if sign == 45 then one_word octets else None)

-- `+ SERVICE ROUTINE` or `- SERVICE`, with one space between words
abbrev pub change_of : List ℕ → Option Op
change_of (sign ∷ space ∷ octets) = if space == 32 then change_by sign octets else None
change_of octets = None

abbrev pub changed_by : Option Op → Deed
changed_by None = done_by (Return Fail (pos 2) Absent)
changed_by (Some op) = record { says = OpBody op; doing = Advertises }

unfoldable pub changed : Data → Deed
changed (Octet octets) = changed_by (change_of octets)
changed payload = changed_by None

-- ---- CHAT

abbrev pub octets_of : Data → List ℕ
octets_of Absent = []
octets_of (Octet octets) = octets
octets_of (Struct subtype octets) = octets

-- a message of these octets on the conversation with its originator, which keeps control
abbrev pub message_of : List ℕ → Body
message_of octets = OpBody (Send 0 no_flags false (Octet octets))

abbrev pub receive_body : Body
receive_body = OpBody (Receive 0 no_flags)

-- with control it sends what it joined, without it receives
abbrev pub joins : Bool → List ℕ → Deed
joins true octets = record { says = message_of octets; doing = SendsFirst octets }
joins false octets = record { says = receive_body; doing = Receives octets }

-- so it does with at most 65,536 octets
abbrev pub joined : Bool → List ℕ → Deed
joined control octets = if nat_lt 65_536 (length octets) then done_by (Return Fail (pos 5) Absent) else joins control octets

abbrev pub has_control : Mode → Bool
has_control ConvSends = true
has_control mode = false

unfoldable pub chats : Mode → Data → Deed
chats mode payload = joined (has_control mode) (octets_of payload)

-- ---- to a REPLY

-- a fault or an event that it doesn't go on behind
abbrev pub failed : Deed
failed = done_by (Return Fail (pos 1) Absent)

abbrev pub told_relay : Reply → Deed
told_relay (replies.Answered descriptor answer) = done_by (relayed_answer answer)
told_relay (replies.Fault fault) = done_by (named_fault (fault_text fault))
told_relay reply = failed

abbrev pub told_change : Reply → Deed
told_change replies.Done = done_by (Return Success (pos 0) (Octet (codes "OK")))
told_change (replies.Fault fault) = done_by (Return Success (pos 0) (Octet (fault_text fault)))
told_change reply = failed

abbrev pub told_message : List ℕ → Reply → Deed
told_message octets (replies.Message payload) = joined false (octets ++ octets_of payload)
told_message octets (replies.Event SendOnly code payload) = joined true (octets ++ octets_of payload)
told_message octets reply = failed

abbrev pub told_first : List ℕ → Reply → Deed
told_first octets replies.Done = record { says = message_of (reverse octets); doing = SendsLast (length octets) }
told_first octets reply = failed

abbrev pub told_last : ℕ → Reply → Deed
told_last count replies.Done = done_by (Return Success (pos count) (Octet (codes "bye")))
told_last count reply = failed

-- what it says to the REPLY
unfoldable pub told : Doing → Reply → Deed
told Waits reply = failed
told Relays reply = told_relay reply
told Advertises reply = told_change reply
told (Receives octets) reply = told_message octets reply
told (SendsFirst octets) reply = told_first octets reply
told (SendsLast count) reply = told_last count reply

-- ---- which REPLY it admits

abbrev pub answers_relay : Reply → Bool
answers_relay (replies.Fault fault) = true
answers_relay (replies.Answered descriptor answer) = descriptor == 0
answers_relay reply = false

abbrev pub answers_change : Reply → Bool
answers_change (replies.Fault fault) = true
answers_change replies.Done = true
answers_change reply = false

abbrev pub answers_receive : Reply → Bool
answers_receive (replies.Fault fault) = true
answers_receive (replies.Message payload) = true
answers_receive (replies.Event event code payload) = true
answers_receive reply = false

abbrev pub answers_send : Reply → Bool
answers_send (replies.Fault fault) = true
answers_send replies.Done = true
answers_send (replies.Event event code payload) = true
answers_send reply = false

-- behind RELAY's call a fault, or an answer to a tpcall; behind ADV's operation a fault, or done; behind CHAT's receive a fault, a message or an event; behind
-- its sends a fault, done or an event
abbrev pub may_tell : Doing → Reply → Bool
may_tell Waits reply = false
may_tell Relays reply = answers_relay reply
may_tell Advertises reply = answers_change reply
may_tell (Receives octets) reply = answers_receive reply
may_tell (SendsFirst octets) reply = answers_send reply
may_tell (SendsLast count) reply = answers_send reply

-- a REPLY is to come
abbrev pub is_calling : Doing → Bool
is_calling Waits = false
is_calling doing = true

-- what CHAT sends has at most 65,536 octets
abbrev pub IsSmall : Doing → Type 0
IsSmall (SendsFirst octets) = length octets ≤ 65_536
IsSmall (SendsLast count) = count ≤ 65_536
IsSmall doing = Unit {0}
