-- The lines of the transcript (this project's own; the names of errors are the standard's).
use Rattle.std.specs.Prelude.{ℕ, ℤ, ◌+◌, ◌/◌, ◌%◌, ◌==◌, nat_lt, if◌then◌else◌, List, [], ◌∷◌, ◌++◌, codes, decimal}
use Rattle.std.specs.Fmt.{signed_decimal}
use Rattle.std.specs.List.{flat_map}
use Rattle.xa_types.specs.Fault.{fault_text, event_text}
use Rattle.xa_types.specs.declared.data.Data.{Data}
use Rattle.xa_types.specs.declared.data.Data.TheVariants.{Absent, Octet, Struct}
use Rattle.xa_types.specs.declared.fault.ConvEvent.{ConvEvent}
use Rattle.xa_types.specs.declared.fault.ConvEvent.TheVariants.{DisconImm, SendOnly, SvcErr, SvcFail, SvcSucc, NoMemory}
use Rattle.xa_types.specs.declared.reply.Answer.{Answer}
use Rattle.xa_types.specs.declared.reply.Answer.TheVariants.{Success, Failed, Error}
use Rattle.xa_types.specs.declared.reply.Reply.{Reply}
use Rattle.xa_types.specs.declared.reply.Reply.TheVariants.{Done, Descriptor, Now, Answered, Message, Event, Fault}

abbrev pub hex_digit : ℕ → ℕ
hex_digit n = if nat_lt n 10 then 48 + n else 87 + n

abbrev pub hex_pair : ℕ → List ℕ
hex_pair octet = hex_digit (octet / 16) ∷ hex_digit (octet % 16) ∷ []

-- two lower-case digits for each octet; `-` for no octets
abbrev pub hex : List ℕ → List ℕ
hex [] = codes "-"
hex (octet ∷ octets) = flat_map hex_pair (octet ∷ octets)

abbrev pub data_text : Data → List ℕ
data_text Absent = codes "none"
data_text (Octet octets) = codes "octet " ++ hex octets
data_text (Struct subtype octets) = codes "c:" ++ subtype ++ codes " " ++ hex octets

-- a space, the code, a space, the data
abbrev pub coded : ℤ → Data → List ℕ
coded code payload = codes " " ++ signed_decimal code ++ codes " " ++ data_text payload

abbrev pub answer_text : Answer → List ℕ
answer_text (Success code payload) = codes "OK" ++ coded code payload
answer_text (Failed code payload) = codes "TPESVCFAIL" ++ coded code payload
answer_text (Error fault) = fault_text fault

-- what stands behind an event's name
abbrev pub event_rest : ConvEvent → ℤ → Data → List ℕ
event_rest DisconImm code payload = []
event_rest SendOnly code payload = codes " " ++ data_text payload
event_rest SvcErr code payload = []
event_rest SvcFail code payload = coded code payload
event_rest SvcSucc code payload = coded code payload
event_rest NoMemory code payload = []

abbrev pub reply_text : Reply → List ℕ
reply_text Done = codes "DONE"
reply_text (Descriptor descriptor) = codes "CD " ++ decimal descriptor
reply_text (Now tick) = codes "NOW " ++ decimal tick
reply_text (Answered descriptor answer) = (if descriptor == 0 then [] else codes "CD " ++ decimal descriptor ++ codes " ") ++ answer_text answer
reply_text (Message payload) = codes "DATA " ++ data_text payload
reply_text (Event event code payload) = codes "TPEEVENT " ++ event_text event ++ event_rest event code payload
reply_text (Fault fault) = fault_text fault

abbrev pub call_text : List ℕ → ℕ → List ℕ
call_text name op = name ++ codes " " ++ decimal op ++ codes " "

-- a line: the client's name, the number of its call, and what the call was told
abbrev pub line_text : List ℕ → ℕ → Reply → List ℕ
line_text name op reply = call_text name op ++ reply_text reply ++ 10 ∷ []
