-- The line of an event: its name and its fields, with one space between (this project's own). Fields stand in the order of docs/machine.md.
use Rattle.std.specs.Prelude.{ℕ, ℤ, ◌<◌, ◌^◌, ⊤, Bool, true, false, List, [], ◌∷◌, ◌++◌, length, map, codes, decimal, FitsSigned}
use Rattle.std.specs.Fmt.{signed_decimal}
use Rattle.std.specs.Int.{w32}
use Rattle.std.specs.List.{All, flat_map}
use Rattle.hex.specs.Hex.{encode_lower, IsBytes}
use Rattle.xa_types.specs.Name.{IsName}
use Rattle.xa_types.specs.Fault.{fault_text, event_text}
use Rattle.xa_types.specs.declared.ids.RequestId.{RequestId}
use Rattle.xa_types.specs.declared.data.Data.{Data}
use Rattle.xa_types.specs.declared.data.Data.TheVariants.{Absent, Octet, Struct}
use Rattle.xa_types.specs.declared.call.Mode.{Mode}
use Rattle.xa_types.specs.declared.call.Mode.TheVariants as modes
use Rattle.xa_types.specs.declared.reply.Answer.{Answer}
use Rattle.xa_types.specs.declared.reply.Answer.TheVariants as answers
use Rattle.xa_events.specs.declared.event.Outcome.{Outcome}
use Rattle.xa_events.specs.declared.event.Outcome.TheVariants as outcomes
use Rattle.xa_events.specs.declared.event.StopCause.{StopCause}
use Rattle.xa_events.specs.declared.event.StopCause.TheVariants as causes
use Rattle.xa_events.specs.declared.event.Item.{Item}
use Rattle.xa_events.specs.declared.event.Item.TheVariants as items
use Rattle.xa_events.specs.declared.event.Evidence.{Evidence}
use Rattle.xa_events.specs.declared.event.Evidence.TheVariants as evidences
use Rattle.xa_events.specs.declared.event.Event.{Event}
use Rattle.xa_events.specs.declared.event.Event.TheVariants as events

-- ---- words

-- `CALLER.NUMBER`
abbrev pub request_word : RequestId → List ℕ
request_word request = decimal request.caller.0 ++ 46 ∷ decimal request.number

abbrev pub truth_word : Bool → List ℕ
truth_word true = codes "yes"
truth_word false = codes "no"

abbrev pub mode_word : Mode → List ℕ
mode_word modes.Reply = codes "Reply"
mode_word modes.NoReply = codes "NoReply"
mode_word modes.ConvReceives = codes "ConvReceives"
mode_word modes.ConvSends = codes "ConvSends"

-- two lower-case digits for each octet; `-` for no octets
abbrev pub hex_word : List ℕ → List ℕ
hex_word [] = codes "-"
hex_word (octet ∷ octets) = encode_lower (octet ∷ octets)

-- ---- fields of several words

-- `none`, `octet HEX`, or `c:SUBTYPE HEX`
abbrev pub data_words : Data → List (List ℕ)
data_words Absent = codes "none" ∷ []
data_words (Octet octets) = codes "octet" ∷ hex_word octets ∷ []
data_words (Struct subtype octets) = (codes "c:" ++ subtype) ∷ hex_word octets ∷ []

-- how many there are, and each of them
abbrev pub requests_words : List RequestId → List (List ℕ)
requests_words requests = decimal (length requests) ∷ map request_word requests

-- a code, and data
abbrev pub coded_words : ℤ → Data → List (List ℕ)
coded_words code payload = signed_decimal code ∷ data_words payload

abbrev pub outcome_words : Outcome → List (List ℕ)
outcome_words (outcomes.Returned code payload) = codes "Returned" ∷ coded_words code payload
outcome_words (outcomes.Failed code payload) = codes "Failed" ∷ coded_words code payload
outcome_words outcomes.BadReturn = codes "BadReturn" ∷ []
outcome_words (outcomes.BadForward version) = codes "BadForward" ∷ decimal version ∷ []
outcome_words outcomes.Died = codes "Died" ∷ []
outcome_words outcomes.Starved = codes "Starved" ∷ []

abbrev pub cause_words : StopCause → List (List ℕ)
cause_words causes.Shutdown = codes "Shutdown" ∷ []
cause_words causes.Exit = codes "Exit" ∷ []
cause_words causes.EndOfInput = codes "EndOfInput" ∷ []
cause_words causes.ReadFault = codes "ReadFault" ∷ []
cause_words causes.WriteFault = codes "WriteFault" ∷ []
cause_words (causes.BadBytes place) = codes "BadBytes" ∷ decimal place ∷ []
cause_words (causes.OutOfTurn kind tag) = codes "OutOfTurn" ∷ decimal kind ∷ decimal tag ∷ []
cause_words causes.Starved = codes "Starved" ∷ []

abbrev pub answer_words : Answer → List (List ℕ)
answer_words (answers.Success code payload) = codes "Success" ∷ coded_words code payload
answer_words (answers.Failed code payload) = codes "Failed" ∷ coded_words code payload
answer_words (answers.Error fault) = codes "Error" ∷ fault_text fault ∷ []

abbrev pub item_words : Item → List (List ℕ)
item_words (items.Message payload passes) = codes "Message" ∷ (data_words payload ++ truth_word passes ∷ [])
item_words (items.Ending event code payload) = codes "Ending" ∷ event_text event ∷ coded_words code payload

abbrev pub evidence_words : Evidence → List (List ℕ)
evidence_words evidences.Argument = codes "Argument" ∷ []
evidence_words (evidences.Version version) = codes "Version" ∷ decimal version ∷ []
evidence_words (evidences.AllDown version) = codes "AllDown" ∷ decimal version ∷ []
evidence_words (evidences.Descriptor descriptor) = codes "Descriptor" ∷ decimal descriptor ∷ []
evidence_words (evidences.Cells many) = codes "Cells" ∷ decimal many ∷ []
evidence_words (evidences.Connections many) = codes "Connections" ∷ decimal many ∷ []
evidence_words (evidences.Rows many) = codes "Rows" ∷ decimal many ∷ []
evidence_words (evidences.Clock tick) = codes "Clock" ∷ decimal tick ∷ []
evidence_words (evidences.Queue queue waiting) = codes "Queue" ∷ decimal queue.0 ∷ decimal waiting ∷ []
evidence_words evidences.Pool = codes "Pool" ∷ []
evidence_words (evidences.Conversation descriptor) = codes "Conversation" ∷ decimal descriptor ∷ []
evidence_words (evidences.Deadline tick deadline) = codes "Deadline" ∷ decimal tick ∷ decimal deadline ∷ []
evidence_words (evidences.Control has) = codes "Control" ∷ truth_word has ∷ []
evidence_words evidences.Role = codes "Role" ∷ []
evidence_words (evidences.Routine routine) = codes "Routine" ∷ routine ∷ []
evidence_words evidences.NoRow = codes "NoRow" ∷ []
evidence_words (evidences.Ended descriptor event code) = codes "Ended" ∷ decimal descriptor ∷ event_text event ∷ signed_decimal code ∷ []

-- ---- events

abbrev pub event_words : Event → List (List ℕ)
event_words (events.Advertise e) = codes "Advertise" ∷ decimal e.by.0 ∷ decimal e.op ∷ e.service ∷ decimal e.queue.0 ∷ e.routine ∷ decimal e.version ∷ []
event_words (events.Withdraw e) = codes "Withdraw" ∷ decimal e.by.0 ∷ decimal e.op ∷ e.service ∷ decimal e.queue.0 ∷ decimal e.version ∷ []
event_words (events.Accept e) = codes "Accept" ∷ decimal e.by.0 ∷ decimal e.op ∷ request_word e.request ∷ decimal e.version ∷ e.service ∷ decimal e.queue.0 ∷ e.routine ∷ decimal e.priority ∷ mode_word e.mode ∷ data_words e.payload
event_words (events.Take e) = codes "Take" ∷ request_word e.request ∷ decimal e.server.0 ∷ decimal e.generation.0 ∷ decimal e.k ∷ []
event_words (events.Forward e) = codes "Forward" ∷ request_word e.request ∷ decimal e.server.0 ∷ decimal e.generation.0 ∷ decimal e.hop ∷ decimal e.version ∷ e.service ∷ decimal e.queue.0 ∷ e.routine ∷ decimal e.priority ∷ data_words e.payload
event_words (events.Sweep e) = codes "Sweep" ∷ request_word e.request ∷ decimal e.queue.0 ∷ []
event_words (events.Gone server) = codes "Gone" ∷ decimal server.0 ∷ []
event_words (events.Down queue) = codes "Down" ∷ decimal queue.0 ∷ []
event_words (events.Close queue) = codes "Close" ∷ decimal queue.0 ∷ []
event_words (events.Tick e) = codes "Tick" ∷ decimal e.by.0 ∷ decimal e.op ∷ decimal e.now ∷ []
event_words (events.Start e) = codes "Start" ∷ decimal e.server.0 ∷ decimal e.generation.0 ∷ decimal e.tick ∷ []
event_words (events.StartFailed e) = codes "StartFailed" ∷ decimal e.server.0 ∷ decimal e.generation.0 ∷ decimal e.tick ∷ []
event_words (events.End e) = codes "End" ∷ request_word e.request ∷ decimal e.server.0 ∷ decimal e.generation.0 ∷ outcome_words e.outcome
event_words (events.Stop e) = codes "Stop" ∷ decimal e.server.0 ∷ decimal e.generation.0 ∷ cause_words e.cause
event_words (events.Answer e) = codes "Answer" ∷ decimal e.by.0 ∷ decimal e.op ∷ request_word e.request ∷ answer_words e.answer
event_words (events.Cancel e) = codes "Cancel" ∷ decimal e.by.0 ∷ decimal e.op ∷ request_word e.request ∷ []
event_words (events.Lapse e) = codes "Lapse" ∷ decimal e.by.0 ∷ decimal e.op ∷ (requests_words e.requests ++ truth_word e.of_call ∷ decimal e.now ∷ decimal e.deadline ∷ [])
event_words (events.Refuse e) = codes "Refuse" ∷ decimal e.by.0 ∷ decimal e.op ∷ fault_text e.fault ∷ evidence_words e.evidence
event_words (events.NotYet e) = codes "NotYet" ∷ decimal e.by.0 ∷ decimal e.op ∷ requests_words e.requests
event_words (events.Leave client) = codes "Leave" ∷ decimal client.0 ∷ []
event_words (events.Send e) = codes "Send" ∷ decimal e.by.0 ∷ decimal e.op ∷ request_word e.request ∷ (data_words e.payload ++ truth_word e.passes ∷ [])
event_words (events.Receive e) = codes "Receive" ∷ decimal e.by.0 ∷ decimal e.op ∷ request_word e.request ∷ item_words e.item
event_words (events.Break e) = codes "Break" ∷ decimal e.by.0 ∷ decimal e.op ∷ request_word e.request ∷ []
event_words (events.Priority e) = codes "Priority" ∷ decimal e.by.0 ∷ decimal e.op ∷ truth_word e.absolute ∷ signed_decimal e.amount ∷ []

-- a space, and the word
abbrev pub spaced : List ℕ → List ℕ
spaced word = 32 ∷ word

-- words, with one space between
abbrev pub joined : List (List ℕ) → List ℕ
joined [] = []
joined (word ∷ words) = word ++ flat_map spaced words

abbrev pub line_of : Event → List ℕ
line_of event = joined (event_words event)

-- ---- what the types of an event's fields say: each number fits, names are names, and octets are octets

abbrev pub IsRequest : RequestId → Type 0
IsRequest request = (request.caller.0 < 2 ^ 16) × (request.number < 2 ^ 64)

-- a list with so many requests is there
abbrev pub AreRequests : List RequestId → Type 0
AreRequests requests = (length requests < 2 ^ 64) × All IsRequest requests

abbrev pub IsData : Data → Type 0
IsData Absent = ⊤
IsData (Octet octets) = IsBytes octets
IsData (Struct subtype octets) = IsName subtype × IsBytes octets

abbrev pub IsCoded : ℤ → Data → Type 0
IsCoded code payload = FitsSigned w32 code × IsData payload

abbrev pub IsOutcome : Outcome → Type 0
IsOutcome (outcomes.Returned code payload) = IsCoded code payload
IsOutcome (outcomes.Failed code payload) = IsCoded code payload
IsOutcome outcomes.BadReturn = ⊤
IsOutcome (outcomes.BadForward version) = version < 2 ^ 64
IsOutcome outcomes.Died = ⊤
IsOutcome outcomes.Starved = ⊤

abbrev pub IsCause : StopCause → Type 0
IsCause causes.Shutdown = ⊤
IsCause causes.Exit = ⊤
IsCause causes.EndOfInput = ⊤
IsCause causes.ReadFault = ⊤
IsCause causes.WriteFault = ⊤
IsCause (causes.BadBytes place) = place < 2 ^ 64
IsCause (causes.OutOfTurn kind tag) = (kind < 2 ^ 8) × (tag < 2 ^ 32)
IsCause causes.Starved = ⊤

abbrev pub IsAnswer : Answer → Type 0
IsAnswer (answers.Success code payload) = IsCoded code payload
IsAnswer (answers.Failed code payload) = IsCoded code payload
IsAnswer (answers.Error fault) = ⊤

abbrev pub IsItem : Item → Type 0
IsItem (items.Message payload passes) = IsData payload
IsItem (items.Ending event code payload) = IsCoded code payload

abbrev pub IsEvidence : Evidence → Type 0
IsEvidence evidences.Argument = ⊤
IsEvidence (evidences.Version version) = version < 2 ^ 64
IsEvidence (evidences.AllDown version) = version < 2 ^ 64
IsEvidence (evidences.Descriptor descriptor) = descriptor < 2 ^ 64
IsEvidence (evidences.Cells many) = many < 2 ^ 32
IsEvidence (evidences.Connections many) = many < 2 ^ 32
IsEvidence (evidences.Rows many) = many < 2 ^ 32
IsEvidence (evidences.Clock tick) = tick < 2 ^ 64
IsEvidence (evidences.Queue queue waiting) = (queue.0 < 2 ^ 16) × (waiting < 2 ^ 32)
IsEvidence evidences.Pool = ⊤
IsEvidence (evidences.Conversation descriptor) = descriptor < 2 ^ 64
IsEvidence (evidences.Deadline tick deadline) = (tick < 2 ^ 64) × (deadline < 2 ^ 64)
IsEvidence (evidences.Control has) = ⊤
IsEvidence evidences.Role = ⊤
IsEvidence (evidences.Routine routine) = IsName routine
IsEvidence evidences.NoRow = ⊤
IsEvidence (evidences.Ended descriptor event code) = (descriptor < 2 ^ 64) × FitsSigned w32 code

-- a caller, and the number of its call
abbrev pub IsCall : ℕ → ℕ → Type 0
IsCall by op = (by < 2 ^ 16) × (op < 2 ^ 32)

-- a life of a server
abbrev pub IsLife : ℕ → ℕ → Type 0
IsLife server generation = (server < 2 ^ 16) × (generation < 2 ^ 64)

abbrev pub IsEvent : Event → Type 0
IsEvent (events.Advertise e) = IsCall e.by.0 e.op × IsName e.service × (e.queue.0 < 2 ^ 16) × IsName e.routine × (e.version < 2 ^ 64)
IsEvent (events.Withdraw e) = IsCall e.by.0 e.op × IsName e.service × (e.queue.0 < 2 ^ 16) × (e.version < 2 ^ 64)
IsEvent (events.Accept e) = IsCall e.by.0 e.op × IsRequest e.request × (e.version < 2 ^ 64) × IsName e.service × (e.queue.0 < 2 ^ 16) × IsName e.routine × (e.priority < 2 ^ 8) × IsData e.payload
IsEvent (events.Take e) = IsRequest e.request × IsLife e.server.0 e.generation.0 × (e.k < 2 ^ 64)
IsEvent (events.Forward e) = IsRequest e.request × IsLife e.server.0 e.generation.0 × (e.hop < 2 ^ 8) × (e.version < 2 ^ 64) × IsName e.service × (e.queue.0 < 2 ^ 16) × IsName e.routine × (e.priority < 2 ^ 8) × IsData e.payload
IsEvent (events.Sweep e) = IsRequest e.request × (e.queue.0 < 2 ^ 16)
IsEvent (events.Gone server) = server.0 < 2 ^ 16
IsEvent (events.Down queue) = queue.0 < 2 ^ 16
IsEvent (events.Close queue) = queue.0 < 2 ^ 16
IsEvent (events.Tick e) = IsCall e.by.0 e.op × (e.now < 2 ^ 64)
IsEvent (events.Start e) = IsLife e.server.0 e.generation.0 × (e.tick < 2 ^ 64)
IsEvent (events.StartFailed e) = IsLife e.server.0 e.generation.0 × (e.tick < 2 ^ 64)
IsEvent (events.End e) = IsRequest e.request × IsLife e.server.0 e.generation.0 × IsOutcome e.outcome
IsEvent (events.Stop e) = IsLife e.server.0 e.generation.0 × IsCause e.cause
IsEvent (events.Answer e) = IsCall e.by.0 e.op × IsRequest e.request × IsAnswer e.answer
IsEvent (events.Cancel e) = IsCall e.by.0 e.op × IsRequest e.request
IsEvent (events.Lapse e) = IsCall e.by.0 e.op × AreRequests e.requests × (e.now < 2 ^ 64) × (e.deadline < 2 ^ 64)
IsEvent (events.Refuse e) = IsCall e.by.0 e.op × IsEvidence e.evidence
IsEvent (events.NotYet e) = IsCall e.by.0 e.op × AreRequests e.requests
IsEvent (events.Leave client) = client.0 < 2 ^ 16
IsEvent (events.Send e) = IsCall e.by.0 e.op × IsRequest e.request × IsData e.payload
IsEvent (events.Receive e) = IsCall e.by.0 e.op × IsRequest e.request × IsItem e.item
IsEvent (events.Break e) = IsCall e.by.0 e.op × IsRequest e.request
IsEvent (events.Priority e) = IsCall e.by.0 e.op × FitsSigned w32 e.amount
