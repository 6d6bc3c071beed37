-- What the routines that make calls say has a spelling.
use Rattle.std.proofs.Common.{◌≡◌, ℕ, ◌+◌, ◌≤◌, ◌&&◌, ◌==◌, Bool, true, false, if◌then◌else◌, pos, List, [], ◌∷◌, ◌++◌, length, take, drop, Option, Some, None, length-take, length-drop, refl, arith, rules, leb-true, ltb-false}
use Rattle.std.specs.Prelude.{IfSome, nat_le, nat_lt}
use Rattle.std.proofs.lemmas.List.{length-reverse}
use Rattle.std.proofs.lemmas.Bool.{and_parts}
use Rattle.std.proofs.lemmas.List.Quantifiers.{position-Some}
use Rattle.xa_types.specs.declared.data.Data.{Data}
use Rattle.xa_types.specs.declared.data.Data.TheVariants.{Absent, Octet, Struct}
use Rattle.xa_types.specs.declared.call.Rval.TheVariants.{Fail}
use Rattle.xa_types.specs.declared.call.Mode.{Mode}
use Rattle.xa_types.specs.declared.call.Op.{Op}
use Rattle.xa_types.specs.declared.call.Op.TheVariants.{Advertise, Unadvertise}
use Rattle.xa_types.specs.declared.fault.Fault.{Fault}
use Rattle.xa_types.specs.declared.fault.Fault.TheVariants.{Inval, NoEnt, IType, OType, BadDesc, Limit, Block, Time, Proto, System, Match, SvcFail, SvcErr, Event, NoMemory}
use Rattle.xa_types.specs.declared.fault.ConvEvent.TheVariants.{SendOnly}
use Rattle.xa_types.specs.declared.reply.Answer.{Answer}
use Rattle.xa_types.specs.declared.reply.Answer.TheVariants as answers
use Rattle.xa_types.specs.declared.reply.Reply.{Reply}
use Rattle.xa_types.specs.declared.reply.Reply.TheVariants as replies
use Rattle.xa_types.specs.Fault.{fault_text}
use Rattle.xa_frame.specs.declared.frame.Body.TheVariants.{Return}
use Rattle.xa_frame.specs.Spelling.{IsBody, IsData, IsOp, IsReply, IsAnswer}
use Rattle.xa_child.specs.Texts.{space_in}
use Rattle.xa_child.specs.Calling.{Doing, IsSmall, relayed, relayed_text, relayed_answer, changed, changed_by, change_of, change_by, one_word, two_words, is_word, is_none, octets_of, joined, joins, has_control, chats, told, told_relay, told_change, told_message, told_first, told_last, named_fault, failed}
use Rattle.xa_child.specs.declared.doing.Doing.TheVariants.{Waits, Relays, Advertises, Receives, SendsFirst, SendsLast}

-- ---- texts

space_low : (octets : List ℕ) (place : ℕ) → space_in octets ≡ Some place → place ≤ 255
space_low octets place is =
    let first = position-Some (λ octet. octet == 0x20) (take 256 octets) place 0 is in
    omega (arith, simp length-take at first.0)

fault_short : (fault : Fault) → length (fault_text fault) ≤ 65_536
fault_short Inval = omega arith
fault_short NoEnt = omega arith
fault_short IType = omega arith
fault_short OType = omega arith
fault_short BadDesc = omega arith
fault_short Limit = omega arith
fault_short Block = omega arith
fault_short Time = omega arith
fault_short Proto = omega arith
fault_short System = omega arith
fault_short Match = omega arith
fault_short SvcFail = omega arith
fault_short SvcErr = omega arith
fault_short Event = omega arith
fault_short NoMemory = omega arith

-- ---- RELAY

relayed_text_body : (place : Option ℕ) (octets : List ℕ) → ((at : ℕ) → place ≡ Some at → at ≤ 255) → length octets ≤ 65_536 → IsBody (relayed_text place octets).says
relayed_text_body None octets low h = search rules
relayed_text_body (Some place) octets low h = (simp length-take (omega (arith, low place refl)), tt, simp length-drop (omega arith), refl)

pub relayed_body : (payload : Data) → IsData payload → IsBody (relayed payload).says
unfolding relayed
relayed_body (Octet octets) h = relayed_text_body (space_in octets) octets (λ place is. space_low octets place is) h
relayed_body Absent h = search rules
relayed_body (Struct subtype octets) h = search rules

-- ---- ADV

le_of : (a b : ℕ) → nat_le a b ≡ true → a ≤ b
le_of a b is = leb-true a b is

word_short : (octets : List ℕ) → is_word octets ≡ true → length octets ≤ 255
word_short octets is =
    let parts = and_parts (nat_le 1 (length octets)) (nat_le (length octets) 255 && is_none (space_in octets)) is in
    le_of (length octets) 255 (and_parts (nat_le (length octets) 255) (is_none (space_in octets)) parts.1).0

one_if : (b : Bool) (octets : List ℕ) → (b ≡ true → length octets ≤ 255) → IfSome (if b then Some (Unadvertise octets) else None) IsOp
one_if true octets short = short refl
one_if false octets short = tt

two_if : (b : Bool) (service routine : List ℕ) → length service ≤ 255 → (b ≡ true → length routine ≤ 255) → IfSome (if b then Some (Advertise service routine) else None) IsOp
two_if true service routine low short = (low, short refl)
two_if false service routine low short = tt

two_ops : (place : Option ℕ) (octets : List ℕ) → ((at : ℕ) → place ≡ Some at → at ≤ 255) → IfSome (two_words place octets) IsOp
two_ops None octets low = tt
two_ops (Some place) octets low =
    two_if (nat_le 1 place && is_word (drop (place + 1) octets)) (take place octets) (drop (place + 1) octets) (simp length-take (omega (arith, low place refl)))
    (λ is. word_short (drop (place + 1) octets) (and_parts (nat_le 1 place) (is_word (drop (place + 1) octets)) is).1)

sign_if : (plus minus : Bool) (octets : List ℕ) → IfSome (if plus then two_words (space_in octets) octets else (if minus then one_word octets else None)) IsOp
sign_if true minus octets = two_ops (space_in octets) octets (λ place is. space_low octets place is)
sign_if false true octets = one_if (is_word octets) octets (word_short octets)
sign_if false false octets = tt

space_if : (b : Bool) (op : Option Op) → IfSome op IsOp → IfSome (if b then op else None) IsOp
space_if true op h = h
space_if false op h = tt

change_op : (octets : List ℕ) → IfSome (change_of octets) IsOp
change_op [] = tt
change_op (sign ∷ []) = tt
change_op (sign ∷ space ∷ octets) = space_if (space == 32) (change_by sign octets) (sign_if (sign == 43) (sign == 45) octets)

changed_is : (op : Option Op) → IfSome op IsOp → IsBody (changed_by op).says
changed_is None h = search rules
changed_is (Some op) h = h

pub changed_body : (payload : Data) → IsData payload → IsBody (changed payload).says
unfolding changed
changed_body (Octet octets) h = changed_is (change_of octets) (change_op octets)
changed_body Absent h = changed_is None tt
changed_body (Struct subtype octets) h = changed_is None tt

-- ---- CHAT

joins_body : (control : Bool) (octets : List ℕ) → length octets ≤ 65_536 → IsBody (joins control octets).says
joins_body true octets few = (omega arith, few)
joins_body false octets few = omega arith

joined_if : (over control : Bool) (octets : List ℕ) → (over ≡ false → length octets ≤ 65_536) → IsBody (if over then record { says = Return Fail (pos 5) Absent; doing = Waits } else joins control octets).says
joined_if true control octets few = search rules
joined_if false control octets few = joins_body control octets (few refl)

few_of : (a b : ℕ) → nat_lt a b ≡ false → b ≤ a
few_of a b is = ltb-false a b is

joined_body : (control : Bool) (octets : List ℕ) → IsBody (joined control octets).says
joined_body control octets = joined_if (nat_lt 65_536 (length octets)) control octets (λ is. few_of 65_536 (length octets) is)

pub chats_body : (mode : Mode) (payload : Data) → IsData payload → IsBody (chats mode payload).says
unfolding chats
chats_body mode payload h = joined_body (has_control mode) (octets_of payload)

-- ---- to a REPLY

failed_body : IsBody failed.says
failed_body = search rules

named_body : (fault : Fault) → IsBody (named_fault (fault_text fault))
named_body fault = search (rules, fault_short fault)

answer_body : (answer : Answer) → IsAnswer answer → IsBody (relayed_answer answer)
answer_body (answers.Success code payload) h = h
answer_body (answers.Failed code payload) h = named_body SvcFail
answer_body (answers.Error fault) h = named_body fault

relay_told : (reply : Reply) → IsReply reply → IsBody (told_relay reply).says
relay_told (replies.Answered descriptor answer) h = answer_body answer h.1
relay_told (replies.Fault fault) h = named_body fault
relay_told reply h = failed_body

change_told : (reply : Reply) → IsReply reply → IsBody (told_change reply).says
change_told replies.Done h = search rules
change_told (replies.Fault fault) h = search (rules, fault_short fault)
change_told reply h = failed_body

message_told : (octets : List ℕ) (reply : Reply) → IsBody (told_message octets reply).says
message_told octets (replies.Message payload) = joined_body false (octets ++ octets_of payload)
message_told octets (replies.Event SendOnly code payload) = joined_body true (octets ++ octets_of payload)
message_told octets reply = failed_body

first_told : (octets : List ℕ) (reply : Reply) → length octets ≤ 65_536 → IsBody (told_first octets reply).says
first_told octets replies.Done few = (omega arith, simp length-reverse few)
first_told octets reply few = failed_body

last_told : (count : ℕ) (reply : Reply) → count ≤ 65_536 → IsBody (told_last count reply).says
last_told count replies.Done few = search (rules, few)
last_told count reply few = failed_body

pub told_body : (doing : Doing) (reply : Reply) → IsSmall doing → IsReply reply → IsBody (told doing reply).says
unfolding told
told_body Waits reply small h = failed_body
told_body Relays reply small h = relay_told reply h
told_body Advertises reply small h = change_told reply h
told_body (Receives octets) reply small h = message_told octets reply
told_body (SendsFirst octets) reply small h = first_told octets reply small
told_body (SendsLast count) reply small h = last_told count reply small
