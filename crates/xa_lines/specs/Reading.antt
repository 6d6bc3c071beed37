-- How the code reads a line, word by word. No public contract rests on these.
use Rattle.std.specs.Prelude.{◌≡◌, ℕ, zero, suc, ℤ, pos, negsuc, ◌+◌, ◌-◌, ⊤, Bool, true, false, List, [], ◌∷◌, ◌++◌, length, take, drop, Option, Some, None, Result, Ok, Err, nat_le, ◌==◌, ◌&&◌, ◌||◌, if◌then◌else◌, codes, decimal}
use Rattle.std.specs.List.{list_all, position}
use Rattle.std.specs.Str.{bytes_eq}
use Rattle.std.specs.Str.Parse.{digits_value}
use Rattle.hex.specs.Hex.{decode_of}
use Rattle.hex.specs.declared.error.FromHexError.{FromHexError}
use Rattle.xa_types.specs.Name.{is_name}
use Rattle.xa_types.specs.Fault.{fault_text, event_text}
use Rattle.xa_types.specs.declared.ids.RequestId.{RequestId}
use Rattle.xa_types.specs.declared.data.Data.{Data}
use Rattle.xa_types.specs.declared.data.Data.TheVariants.{Absent, Octet, Struct}
use Rattle.xa_types.specs.declared.call.Mode.{Mode}
use Rattle.xa_types.specs.declared.call.Mode.TheVariants as modes
use Rattle.xa_types.specs.declared.fault.Fault.{Fault}
use Rattle.xa_types.specs.declared.fault.Fault.TheVariants as faults
use Rattle.xa_types.specs.declared.fault.ConvEvent.{ConvEvent}
use Rattle.xa_types.specs.declared.fault.ConvEvent.TheVariants as ends
use Rattle.xa_types.specs.declared.reply.Answer.{Answer}
use Rattle.xa_types.specs.declared.reply.Answer.TheVariants as answers
use Rattle.xa_events.specs.declared.event.Outcome.{Outcome}
use Rattle.xa_events.specs.declared.event.Outcome.TheVariants as outcomes
use Rattle.xa_events.specs.declared.event.StopCause.{StopCause}
use Rattle.xa_events.specs.declared.event.StopCause.TheVariants as causes
use Rattle.xa_events.specs.declared.event.Item.{Item}
use Rattle.xa_events.specs.declared.event.Item.TheVariants as items
use Rattle.xa_events.specs.declared.event.Evidence.{Evidence}
use Rattle.xa_events.specs.declared.event.Evidence.TheVariants as evidences
use Rattle.xa_events.specs.declared.event.Event.{Event}
use Rattle.xa_events.specs.declared.event.Event.TheVariants as events
use Rattle.xa_lines.specs.declared.refusal.EventRefused.{EventRefused}
use Rattle.xa_lines.specs.declared.refusal.EventRefused.TheVariants as refusals
use Rattle.xa_lines.specs.declared.words.NoForm.{NoForm}
use Rattle.xa_lines.specs.Line.{truth_word, mode_word}

infixl 10 ◌>>=◌
abbrev pub ◌>>=◌ : {A B : Type 0} → Option A → (A → Option B) → Option B
(Some x) >>= f = f x
None >>= f = None

-- what a function returned, seen by view, is what reading gives
abbrev pub Reads : {X Y : Type 0} → (X → Y) → Result X NoForm → Option Y → Type 0
Reads view (Ok x) said = said ≡ Some (view x)
Reads view (Err e) said = said ≡ None

-- the same, but that memory may run out
abbrev pub Fails : {Y : Type 0} → EventRefused → Option Y → Type 0
Fails refusals.NoEvent said = said ≡ None
Fails refusals.NoMemory said = ⊤

abbrev pub Makes : {X Y : Type 0} → (X → Y) → Result X EventRefused → Option Y → Type 0
Makes view (Ok x) said = said ≡ Some (view x)
Makes view (Err e) said = Fails e said

-- ---- words

abbrev pub is_space : ℕ → Bool
is_space octet = octet == 32

-- an octet more in front of the first word
abbrev pub put_first : ℕ → List (List ℕ) → List (List ℕ)
put_first octet [] = (octet ∷ []) ∷ []
put_first octet (word ∷ words) = (octet ∷ word) ∷ words

-- the words of a line, which may be empty ones: it is cut at each space
unfoldable pub split : List ℕ → List (List ℕ)
split [] = [] ∷ []
split (octet ∷ octets) = if octet == 32 then [] ∷ split octets else put_first octet (split octets)

-- the words each of which has a space before it
unfoldable pub words_in : List ℕ → List (List ℕ)
words_in [] = []
words_in (octet ∷ octets) = if octet == 32 then split octets else []

-- what stands behind the space in front
abbrev pub after_space : List ℕ → Option (List ℕ)
after_space [] = None
after_space (octet ∷ octets) = if octet == 32 then Some octets else None

-- ---- how fields are put together

-- a field: its value, and the words behind it
abbrev pub Field : Type 0 → Type 0
Field A = List (List ℕ) → Option (A × List (List ℕ))

-- a field of one word
abbrev pub one : {A : Type 0} → (List ℕ → Option A) → Field A
one of [] = None
one of (word ∷ words) = of word >>= λ v. Some (v, words)

-- two fields
abbrev pub both : {A B : Type 0} → Field A → Field B → Field (A × B)
both f g words = do
  a ← f words
  b ← g a.1
  Some ((a.0, b.0), b.1)

-- a field that says another value
abbrev pub said : {A B : Type 0} → (A → B) → Field A → Field B
said to f words = do
  a ← f words
  Some (to a.0, a.1)

-- no word
abbrev pub nothing : Field (Unit {0})
nothing words = Some (tt, words)

-- one of several fields, which the first word says
abbrev pub by_word : {A : Type 0} → (List ℕ → Field A) → Field A
by_word form [] = None
by_word form (word ∷ words) = form word words

-- the one of these values that has that word
abbrev pub pick : {A : Type 0} → (A → List ℕ) → List A → List ℕ → Option A
pick word_of [] word = None
pick word_of (v ∷ vs) word = if bytes_eq word (word_of v) then Some v else pick word_of vs word

-- all words are that field
abbrev pub whole : {A : Type 0} → Field A → List (List ℕ) → Option A
whole f words = do
  a ← f words
  if length a.1 == 0 then Some a.0 else None

-- ---- fields of one word

abbrev pub word_at : Field (List ℕ)
word_at = one Some

-- the number that the word spells, at most the one
unfoldable pub number_of : ℕ → List ℕ → Option ℕ
number_of most word = if bytes_eq (decimal (digits_value 10 word)) word && nat_le (digits_value 10 word) most then Some (digits_value 10 word) else None

abbrev pub number_at : ℕ → Field ℕ
number_at most = one (number_of most)

abbrev pub below_of : ℕ → Option ℤ
below_of n = if n == 0 then None else Some (negsuc (n - 1))

unfoldable pub signed_of : List ℕ → Option ℤ
signed_of [] = None
signed_of (octet ∷ octets) = if octet == 45 then (number_of 2147483648 octets >>= below_of) else (number_of 2147483647 (octet ∷ octets) >>= λ n. Some (pos n))

abbrev pub signed_at : Field ℤ
signed_at = one signed_of

abbrev pub name_of : List ℕ → Option (List ℕ)
name_of word = if is_name word then Some word else None

abbrev pub name_at : Field (List ℕ)
name_at = one name_of

abbrev pub is_dot : ℕ → Bool
is_dot octet = octet == 46

unfoldable pub request_of : List ℕ → Option RequestId
request_of word = do
  place ← position is_dot word
  caller ← number_of 65535 (take place word)
  number ← number_of 18446744073709551615 (drop (place + 1) word)
  Some (record { caller = record { 0 = caller }; number = number })

abbrev pub request_at : Field RequestId
request_at = one request_of

abbrev pub all_truths : List Bool
all_truths = true ∷ false ∷ []

abbrev pub truth_of : List ℕ → Option Bool
truth_of word = pick truth_word all_truths word

abbrev pub truth_at : Field Bool
truth_at = one truth_of

abbrev pub all_modes : List Mode
all_modes = modes.Reply ∷ modes.NoReply ∷ modes.ConvReceives ∷ modes.ConvSends ∷ []

abbrev pub mode_of : List ℕ → Option Mode
mode_of word = pick mode_word all_modes word

abbrev pub mode_at : Field Mode
mode_at = one mode_of

abbrev pub all_faults : List Fault
all_faults = faults.Inval ∷ faults.NoEnt ∷ faults.IType ∷ faults.OType ∷ faults.BadDesc ∷ faults.Limit ∷ faults.Block ∷ faults.Time ∷ faults.Proto ∷ faults.System ∷ faults.Match ∷ faults.SvcFail ∷ faults.SvcErr ∷ faults.Event ∷ faults.NoMemory ∷ []

abbrev pub fault_of : List ℕ → Option Fault
fault_of word = pick fault_text all_faults word

abbrev pub fault_at : Field Fault
fault_at = one fault_of

abbrev pub all_ends : List ConvEvent
all_ends = ends.DisconImm ∷ ends.SendOnly ∷ ends.SvcErr ∷ ends.SvcFail ∷ ends.SvcSucc ∷ ends.NoMemory ∷ []

abbrev pub end_of : List ℕ → Option ConvEvent
end_of word = pick event_text all_ends word

abbrev pub end_at : Field ConvEvent
end_at = one end_of

-- 0 to 9, a to f
abbrev pub is_lower : ℕ → Bool
is_lower octet = (nat_le 48 octet && nat_le octet 57) || (nat_le 97 octet && nat_le octet 102)

-- octets, where there are some
abbrev pub some_of : Result (List ℕ) FromHexError → Option (List ℕ)
some_of (Ok []) = None
some_of (Ok (octet ∷ octets)) = Some (octet ∷ octets)
some_of (Err e) = None

unfoldable pub hex_of : List ℕ → Option (List ℕ)
hex_of word = if bytes_eq word (codes "-") then Some [] else (if list_all is_lower word then some_of (decode_of word) else None)

abbrev pub hex_at : Field (List ℕ)
hex_at = one hex_of

-- ---- fields of several words

-- the name behind `c:`
abbrev pub subtype_of : List ℕ → Option (List ℕ)
subtype_of [] = None
subtype_of (a ∷ []) = None
subtype_of (a ∷ b ∷ rest) = if (a == 99) && (b == 58) then name_of rest else None

abbrev pub struct_form : List ℕ → Field Data
struct_form word words = subtype_of word >>= λ subtype. said (Struct subtype) hex_at words

abbrev pub data_form : List ℕ → Field Data
data_form word words =
    if bytes_eq word (codes "none") then said (λ _. Absent) nothing words
    else (if bytes_eq word (codes "octet") then said Octet hex_at words
    else struct_form word words)

unfoldable pub data_at : Field Data
data_at = by_word data_form

abbrev pub coded_at : Field (ℤ × Data)
coded_at = both signed_at data_at

-- so many requests, behind those
abbrev pub requests_from : List RequestId → ℕ → Field (List RequestId)
requests_from front zero words = Some (front, words)
requests_from front (suc n) words = do
  request ← request_at words
  requests_from (front ++ request.0 ∷ []) n request.1

unfoldable pub requests_at : Field (List RequestId)
requests_at words = do
  many ← number_at 18446744073709551615 words
  requests_from [] many.0 many.1

abbrev pub returned : ℤ × Data → Outcome
returned v = outcomes.Returned v.0 v.1

abbrev pub failed : ℤ × Data → Outcome
failed v = outcomes.Failed v.0 v.1

abbrev pub outcome_form : List ℕ → Field Outcome
outcome_form word words =
    if bytes_eq word (codes "Returned") then said returned coded_at words
    else (if bytes_eq word (codes "Failed") then said failed coded_at words
    else (if bytes_eq word (codes "BadReturn") then said (λ _. outcomes.BadReturn) nothing words
    else (if bytes_eq word (codes "BadForward") then said outcomes.BadForward (number_at 18446744073709551615) words
    else (if bytes_eq word (codes "Died") then said (λ _. outcomes.Died) nothing words
    else (if bytes_eq word (codes "Starved") then said (λ _. outcomes.Starved) nothing words
    else None)))))

unfoldable pub outcome_at : Field Outcome
outcome_at = by_word outcome_form

abbrev pub out_of_turn : ℕ × ℕ → StopCause
out_of_turn v = causes.OutOfTurn v.0 v.1

abbrev pub cause_form : List ℕ → Field StopCause
cause_form word words =
    if bytes_eq word (codes "Shutdown") then said (λ _. causes.Shutdown) nothing words
    else (if bytes_eq word (codes "Exit") then said (λ _. causes.Exit) nothing words
    else (if bytes_eq word (codes "EndOfInput") then said (λ _. causes.EndOfInput) nothing words
    else (if bytes_eq word (codes "ReadFault") then said (λ _. causes.ReadFault) nothing words
    else (if bytes_eq word (codes "WriteFault") then said (λ _. causes.WriteFault) nothing words
    else (if bytes_eq word (codes "BadBytes") then said causes.BadBytes (number_at 18446744073709551615) words
    else (if bytes_eq word (codes "OutOfTurn") then said out_of_turn (both (number_at 255) (number_at 4294967295)) words
    else (if bytes_eq word (codes "Starved") then said (λ _. causes.Starved) nothing words
    else None)))))))

unfoldable pub cause_at : Field StopCause
cause_at = by_word cause_form

abbrev pub succeeded : ℤ × Data → Answer
succeeded v = answers.Success v.0 v.1

abbrev pub refused : ℤ × Data → Answer
refused v = answers.Failed v.0 v.1

abbrev pub answer_form : List ℕ → Field Answer
answer_form word words =
    if bytes_eq word (codes "Success") then said succeeded coded_at words
    else (if bytes_eq word (codes "Failed") then said refused coded_at words
    else (if bytes_eq word (codes "Error") then said answers.Error fault_at words
    else None))

unfoldable pub answer_at : Field Answer
answer_at = by_word answer_form

abbrev pub message : Data × Bool → Item
message v = items.Message v.0 v.1

abbrev pub ending : ConvEvent × (ℤ × Data) → Item
ending v = items.Ending v.0 v.1.0 v.1.1

abbrev pub item_form : List ℕ → Field Item
item_form word words =
    if bytes_eq word (codes "Message") then said message (both data_at truth_at) words
    else (if bytes_eq word (codes "Ending") then said ending (both end_at coded_at) words
    else None)

unfoldable pub item_at : Field Item
item_at = by_word item_form

abbrev pub full : ℕ × ℕ → Evidence
full v = evidences.Queue (record { 0 = v.0 }) v.1

abbrev pub late : ℕ × ℕ → Evidence
late v = evidences.Deadline v.0 v.1

abbrev pub over : ℕ × (ConvEvent × ℤ) → Evidence
over v = evidences.Ended v.0 v.1.0 v.1.1

abbrev pub evidence_form : List ℕ → Field Evidence
evidence_form word words =
    if bytes_eq word (codes "Argument") then said (λ _. evidences.Argument) nothing words
    else (if bytes_eq word (codes "Version") then said evidences.Version (number_at 18446744073709551615) words
    else (if bytes_eq word (codes "AllDown") then said evidences.AllDown (number_at 18446744073709551615) words
    else (if bytes_eq word (codes "Descriptor") then said evidences.Descriptor (number_at 18446744073709551615) words
    else (if bytes_eq word (codes "Cells") then said evidences.Cells (number_at 4294967295) words
    else (if bytes_eq word (codes "Connections") then said evidences.Connections (number_at 4294967295) words
    else (if bytes_eq word (codes "Rows") then said evidences.Rows (number_at 4294967295) words
    else (if bytes_eq word (codes "Clock") then said evidences.Clock (number_at 18446744073709551615) words
    else (if bytes_eq word (codes "Queue") then said full (both (number_at 65535) (number_at 4294967295)) words
    else (if bytes_eq word (codes "Pool") then said (λ _. evidences.Pool) nothing words
    else (if bytes_eq word (codes "Conversation") then said evidences.Conversation (number_at 18446744073709551615) words
    else (if bytes_eq word (codes "Deadline") then said late (both (number_at 18446744073709551615) (number_at 18446744073709551615)) words
    else (if bytes_eq word (codes "Control") then said evidences.Control truth_at words
    else (if bytes_eq word (codes "Role") then said (λ _. evidences.Role) nothing words
    else (if bytes_eq word (codes "Routine") then said evidences.Routine name_at words
    else (if bytes_eq word (codes "NoRow") then said (λ _. evidences.NoRow) nothing words
    else (if bytes_eq word (codes "Ended") then said over (both (number_at 18446744073709551615) (both end_at signed_at)) words
    else None))))))))))))))))

unfoldable pub evidence_at : Field Evidence
evidence_at = by_word evidence_form

-- ---- events

-- a caller, and the number of its call
abbrev pub call_at : Field (ℕ × ℕ)
call_at = both (number_at 65535) (number_at 4294967295)

-- a life of a server
abbrev pub life_at : Field (ℕ × ℕ)
life_at = both (number_at 65535) (number_at 18446744073709551615)

abbrev pub advertised : (ℕ × ℕ) × (List ℕ × (ℕ × (List ℕ × ℕ))) → Event
advertised v = events.Advertise (record { by = record { 0 = v.0.0 }; op = v.0.1; service = v.1.0; queue = record { 0 = v.1.1.0 }; routine = v.1.1.1.0; version = v.1.1.1.1 })

unfoldable pub advertise_at : Field Event
advertise_at = said advertised (both call_at (both name_at (both (number_at 65535) (both name_at (number_at 18446744073709551615)))))

abbrev pub withdrawn : (ℕ × ℕ) × (List ℕ × (ℕ × ℕ)) → Event
withdrawn v = events.Withdraw (record { by = record { 0 = v.0.0 }; op = v.0.1; service = v.1.0; queue = record { 0 = v.1.1.0 }; version = v.1.1.1 })

unfoldable pub withdraw_at : Field Event
withdraw_at = said withdrawn (both call_at (both name_at (both (number_at 65535) (number_at 18446744073709551615))))

-- where a request goes: the version of the board, the service, the queue, the routine and the priority
abbrev pub way_at : Field (ℕ × (List ℕ × (ℕ × (List ℕ × ℕ))))
way_at = both (number_at 18446744073709551615) (both name_at (both (number_at 65535) (both name_at (number_at 255))))

abbrev pub accepted : (ℕ × ℕ) × (RequestId × ((ℕ × (List ℕ × (ℕ × (List ℕ × ℕ)))) × (Mode × Data))) → Event
accepted v = events.Accept (record { by = record { 0 = v.0.0 }; op = v.0.1; request = v.1.0; version = v.1.1.0.0; service = v.1.1.0.1.0; queue = record { 0 = v.1.1.0.1.1.0 }; routine = v.1.1.0.1.1.1.0; priority = v.1.1.0.1.1.1.1; mode = v.1.1.1.0; payload = v.1.1.1.1 })

unfoldable pub accept_at : Field Event
accept_at = said accepted (both call_at (both request_at (both way_at (both mode_at data_at))))

abbrev pub taken : RequestId × ((ℕ × ℕ) × ℕ) → Event
taken v = events.Take (record { request = v.0; server = record { 0 = v.1.0.0 }; generation = record { 0 = v.1.0.1 }; k = v.1.1 })

unfoldable pub take_at : Field Event
take_at = said taken (both request_at (both life_at (number_at 18446744073709551615)))

abbrev pub forwarded : RequestId × ((ℕ × ℕ) × (ℕ × ((ℕ × (List ℕ × (ℕ × (List ℕ × ℕ)))) × Data))) → Event
forwarded v = events.Forward (record { request = v.0; generation = record { 0 = v.1.0.1 }; version = v.1.1.1.0.0; server = record { 0 = v.1.0.0 }; queue = record { 0 = v.1.1.1.0.1.1.0 }; hop = v.1.1.0; priority = v.1.1.1.0.1.1.1.1; service = v.1.1.1.0.1.0; routine = v.1.1.1.0.1.1.1.0; payload = v.1.1.1.1 })

unfoldable pub forward_at : Field Event
forward_at = said forwarded (both request_at (both life_at (both (number_at 255) (both way_at data_at))))

abbrev pub swept : RequestId × ℕ → Event
swept v = events.Sweep (record { request = v.0; queue = record { 0 = v.1 } })

unfoldable pub sweep_at : Field Event
sweep_at = said swept (both request_at (number_at 65535))

abbrev pub gone : ℕ → Event
gone server = events.Gone (record { 0 = server })

abbrev pub down : ℕ → Event
down queue = events.Down (record { 0 = queue })

abbrev pub closed : ℕ → Event
closed queue = events.Close (record { 0 = queue })

abbrev pub left : ℕ → Event
left client = events.Leave (record { 0 = client })

abbrev pub ticked : (ℕ × ℕ) × ℕ → Event
ticked v = events.Tick (record { by = record { 0 = v.0.0 }; op = v.0.1; now = v.1 })

unfoldable pub tick_at : Field Event
tick_at = said ticked (both call_at (number_at 18446744073709551615))

abbrev pub started : (ℕ × ℕ) × ℕ → Event
started v = events.Start (record { server = record { 0 = v.0.0 }; generation = record { 0 = v.0.1 }; tick = v.1 })

abbrev pub not_started : (ℕ × ℕ) × ℕ → Event
not_started v = events.StartFailed (record { server = record { 0 = v.0.0 }; generation = record { 0 = v.0.1 }; tick = v.1 })

-- a life, and the tick at which it was to start
abbrev pub start_at : Field ((ℕ × ℕ) × ℕ)
start_at = both life_at (number_at 18446744073709551615)

abbrev pub ended : RequestId × ((ℕ × ℕ) × Outcome) → Event
ended v = events.End (record { request = v.0; server = record { 0 = v.1.0.0 }; generation = record { 0 = v.1.0.1 }; outcome = v.1.1 })

unfoldable pub ended_at : Field Event
ended_at = said ended (both request_at (both life_at outcome_at))

abbrev pub stopped : (ℕ × ℕ) × StopCause → Event
stopped v = events.Stop (record { server = record { 0 = v.0.0 }; generation = record { 0 = v.0.1 }; cause = v.1 })

unfoldable pub stop_at : Field Event
stop_at = said stopped (both life_at cause_at)

abbrev pub answered : (ℕ × ℕ) × (RequestId × Answer) → Event
answered v = events.Answer (record { by = record { 0 = v.0.0 }; op = v.0.1; request = v.1.0; answer = v.1.1 })

unfoldable pub answered_at : Field Event
answered_at = said answered (both call_at (both request_at answer_at))

abbrev pub cancelled : (ℕ × ℕ) × RequestId → Event
cancelled v = events.Cancel (record { by = record { 0 = v.0.0 }; op = v.0.1; request = v.1 })

abbrev pub broken : (ℕ × ℕ) × RequestId → Event
broken v = events.Break (record { by = record { 0 = v.0.0 }; op = v.0.1; request = v.1 })

-- a call, and its request
abbrev pub asked_at : Field ((ℕ × ℕ) × RequestId)
asked_at = both call_at request_at

abbrev pub lapsed : (ℕ × ℕ) × (List RequestId × (Bool × (ℕ × ℕ))) → Event
lapsed v = events.Lapse (record { by = record { 0 = v.0.0 }; op = v.0.1; requests = v.1.0; of_call = v.1.1.0; now = v.1.1.1.0; deadline = v.1.1.1.1 })

unfoldable pub lapse_at : Field Event
lapse_at = said lapsed (both call_at (both requests_at (both truth_at (both (number_at 18446744073709551615) (number_at 18446744073709551615)))))

abbrev pub denied : (ℕ × ℕ) × (Fault × Evidence) → Event
denied v = events.Refuse (record { by = record { 0 = v.0.0 }; op = v.0.1; fault = v.1.0; evidence = v.1.1 })

unfoldable pub refuse_at : Field Event
refuse_at = said denied (both call_at (both fault_at evidence_at))

abbrev pub unready : (ℕ × ℕ) × List RequestId → Event
unready v = events.NotYet (record { by = record { 0 = v.0.0 }; op = v.0.1; requests = v.1 })

unfoldable pub not_yet_at : Field Event
not_yet_at = said unready (both call_at requests_at)

abbrev pub sent : (ℕ × ℕ) × (RequestId × (Data × Bool)) → Event
sent v = events.Send (record { by = record { 0 = v.0.0 }; op = v.0.1; request = v.1.0; payload = v.1.1.0; passes = v.1.1.1 })

unfoldable pub send_at : Field Event
send_at = said sent (both call_at (both request_at (both data_at truth_at)))

abbrev pub received : (ℕ × ℕ) × (RequestId × Item) → Event
received v = events.Receive (record { by = record { 0 = v.0.0 }; op = v.0.1; request = v.1.0; item = v.1.1 })

unfoldable pub receive_at : Field Event
receive_at = said received (both call_at (both request_at item_at))

abbrev pub prioritized : (ℕ × ℕ) × (Bool × ℤ) → Event
prioritized v = events.Priority (record { by = record { 0 = v.0.0 }; op = v.0.1; absolute = v.1.0; amount = v.1.1 })

unfoldable pub priority_at : Field Event
priority_at = said prioritized (both call_at (both truth_at signed_at))

abbrev pub event_form : List ℕ → Field Event
event_form word words =
    if bytes_eq word (codes "Take") then take_at words
    else (if bytes_eq word (codes "End") then ended_at words
    else (if bytes_eq word (codes "Answer") then answered_at words
    else (if bytes_eq word (codes "Accept") then accept_at words
    else (if bytes_eq word (codes "Send") then send_at words
    else (if bytes_eq word (codes "Receive") then receive_at words
    else (if bytes_eq word (codes "Forward") then forward_at words
    else (if bytes_eq word (codes "Advertise") then advertise_at words
    else (if bytes_eq word (codes "Withdraw") then withdraw_at words
    else (if bytes_eq word (codes "Sweep") then sweep_at words
    else (if bytes_eq word (codes "Gone") then said gone (number_at 65535) words
    else (if bytes_eq word (codes "Down") then said down (number_at 65535) words
    else (if bytes_eq word (codes "Close") then said closed (number_at 65535) words
    else (if bytes_eq word (codes "Tick") then tick_at words
    else (if bytes_eq word (codes "Start") then said started start_at words
    else (if bytes_eq word (codes "StartFailed") then said not_started start_at words
    else (if bytes_eq word (codes "Stop") then stop_at words
    else (if bytes_eq word (codes "Cancel") then said cancelled asked_at words
    else (if bytes_eq word (codes "Lapse") then lapse_at words
    else (if bytes_eq word (codes "Refuse") then refuse_at words
    else (if bytes_eq word (codes "NotYet") then not_yet_at words
    else (if bytes_eq word (codes "Leave") then said left (number_at 65535) words
    else (if bytes_eq word (codes "Break") then said broken asked_at words
    else (if bytes_eq word (codes "Priority") then priority_at words
    else None)))))))))))))))))))))))

unfoldable pub event_of : List (List ℕ) → Option Event
event_of = whole (by_word event_form)
