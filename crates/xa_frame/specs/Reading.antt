-- Reading octets from left to right: what a field is, and the octets after it. No public contract rests on these.
use Rattle.std.specs.Prelude.{◌≡◌, ℕ, ℤ, ◌+◌, ◌/◌, ◌%◌, ◌^◌, Bool, true, false, List, [], ◌∷◌, length, take, drop, Option, Some, None, Result, Ok, Err, IsSome, nat_lt, nat_le, ◌==◌, ◌&&◌, if◌then◌else◌}
use Rattle.std.specs.Int.{w32, w64, from_be_bytes, cast_signed}
use Rattle.xa_types.specs.Name.{is_name}
use Rattle.xa_types.specs.declared.data.Data.{Data}
use Rattle.xa_types.specs.declared.data.Data.TheVariants.{Absent, Octet, Struct}
use Rattle.xa_types.specs.declared.data.Kind.{Kind}
use Rattle.xa_types.specs.declared.data.Kind.TheVariants as data_kinds
use Rattle.xa_types.specs.declared.call.CallFlags.{CallFlags}
use Rattle.xa_types.specs.declared.call.Direction.{Direction}
use Rattle.xa_types.specs.declared.call.Direction.TheVariants.{Neither, SendOnly, RecvOnly, Both}
use Rattle.xa_types.specs.declared.call.Op.{Op}
use Rattle.xa_types.specs.declared.call.Op.TheVariants as ops
use Rattle.xa_types.specs.declared.call.Mode.{Mode}
use Rattle.xa_types.specs.declared.call.Mode.TheVariants as modes
use Rattle.xa_types.specs.declared.call.Rval.{Rval}
use Rattle.xa_types.specs.declared.call.Rval.TheVariants as rvals
use Rattle.xa_types.specs.declared.fault.Fault.{Fault}
use Rattle.xa_types.specs.declared.fault.Fault.TheVariants as faults
use Rattle.xa_types.specs.declared.fault.ConvEvent.{ConvEvent}
use Rattle.xa_types.specs.declared.fault.ConvEvent.TheVariants as events
use Rattle.xa_types.specs.declared.reply.Answer.{Answer}
use Rattle.xa_types.specs.declared.reply.Answer.TheVariants as answers
use Rattle.xa_types.specs.declared.reply.Reply.{Reply}
use Rattle.xa_types.specs.declared.reply.Reply.TheVariants as replies
use Rattle.xa_frame.specs.declared.frame.Frame.{Frame}
use Rattle.xa_frame.specs.declared.frame.Body.{Body}
use Rattle.xa_frame.specs.declared.frame.Body.TheVariants as bodies
use Rattle.xa_frame.specs.declared.header.FrameKind.{FrameKind}
use Rattle.xa_frame.specs.declared.header.FrameKind.TheVariants as kinds
use Rattle.xa_frame.specs.declared.header.Header.{Header}
use Rattle.xa_frame.specs.declared.fields.NoFrame.{NoFrame}
use Rattle.xa_frame.specs.declared.fields.ReadError.{ReadError}
use Rattle.xa_frame.specs.declared.fields.ReadError.TheVariants as errors
use Rattle.xa_frame.specs.declared.reader.NextRefused.{NextRefused}
use Rattle.xa_frame.specs.declared.reader.NextRefused.TheVariants.{BadFrame, NoMemory}
use Rattle.xa_frame.specs.Spelling.{bit, direction_octet, rval_octet, mode_octet, fault_octet, event_octet, spelled}
use Rattle.xa_frame.specs.Stream.{Begins, IsPartial, IsMalformed}

infixl 10 ◌>>=◌
abbrev pub ◌>>=◌ : {A B : Type 0} → Option A → (A → Option B) → Option B
(Some x) >>= f = f x
None >>= f = None

-- what a function returned, seen by view, is what reading gives
abbrev pub Reads : {X Y : Type 0} → (X → Y) → Result X NoFrame → Option Y → Type 0
Reads view (Ok x) read = read ≡ Some (view x)
Reads view (Err e) read = read ≡ None

-- the same, but that memory may run out, and only where something is read
abbrev pub Fails : {Y : Type 0} → ReadError → Option Y → Type 0
Fails errors.NoFrame read = read ≡ None
Fails errors.NoMemory read = IsSome read

abbrev pub Makes : {X : Type 0} → Result X ReadError → Option X → Type 0
Makes (Ok x) read = read ≡ Some x
Makes (Err e) read = Fails e read

-- ---- how fields are put together

-- a field: its value, and the octets after it
abbrev pub Field : Type 0 → Type 0
Field A = List ℕ → Option (A × List ℕ)

-- what all of the octets are
abbrev pub Form : Type 0 → Type 0
Form A = List ℕ → Option A

-- no octet
abbrev pub nothing : Form (Unit {0})
nothing octets = if length octets == 0 then Some tt else None

-- a last field
abbrev pub last : {A : Type 0} → Field A → Form A
last f octets = do
  x ← f octets
  if length x.1 == 0 then Some x.0 else None

-- one field, and then others
abbrev pub before : {A B : Type 0} → Field A → Form B → Form (A × B)
before f g octets = do
  a ← f octets
  b ← g a.1
  Some (a.0, b)

-- a form that says another value
abbrev pub said : {A B : Type 0} → (A → B) → Form A → Form B
said to g octets = do
  v ← g octets
  Some (to v)

abbrev pub octet_at : Field ℕ
octet_at [] = None
octet_at (x ∷ rest) = Some (x, rest)

-- an octet that says a value
abbrev pub octet_as : {A : Type 0} → (ℕ → Option A) → Field A
octet_as of octets = do
  octet ← octet_at octets
  value ← of octet.0
  Some (value, octet.1)

-- one of several forms, which the first octet says
abbrev pub by_octet : {A : Type 0} → (ℕ → Form A) → Form A
by_octet form octets = do
  octet ← octet_at octets
  form octet.0 octet.1

-- the one of these values that has that octet
abbrev pub pick : {A : Type 0} → (A → ℕ) → List A → ℕ → Option A
pick octet_of [] octet = None
pick octet_of (v ∷ vs) octet = if octet == octet_of v then Some v else pick octet_of vs octet

-- ---- octets that say something

abbrev pub all_truths : List Bool
all_truths = false ∷ true ∷ []

abbrev pub truth_of : ℕ → Option Bool
truth_of octet = pick bit all_truths octet

abbrev pub all_directions : List Direction
all_directions = Neither ∷ SendOnly ∷ RecvOnly ∷ Both ∷ []

abbrev pub direction_of : ℕ → Option Direction
direction_of octet = pick direction_octet all_directions octet

abbrev pub all_rvals : List Rval
all_rvals = rvals.Success ∷ rvals.Fail ∷ rvals.Exit ∷ []

abbrev pub rval_of : ℕ → Option Rval
rval_of octet = pick rval_octet all_rvals octet

abbrev pub all_modes : List Mode
all_modes = modes.Reply ∷ modes.NoReply ∷ modes.ConvReceives ∷ modes.ConvSends ∷ []

abbrev pub mode_of : ℕ → Option Mode
mode_of octet = pick mode_octet all_modes octet

abbrev pub all_faults : List Fault
all_faults = faults.Inval ∷ faults.NoEnt ∷ faults.IType ∷ faults.OType ∷ faults.BadDesc ∷ faults.Limit ∷ faults.Block ∷ faults.Time ∷ faults.Proto ∷ faults.System ∷ faults.Match ∷ faults.SvcFail ∷ faults.SvcErr ∷ faults.Event ∷ faults.NoMemory ∷ []

abbrev pub fault_of : ℕ → Option Fault
fault_of octet = pick fault_octet all_faults octet

abbrev pub all_events : List ConvEvent
all_events = events.DisconImm ∷ events.SendOnly ∷ events.SvcErr ∷ events.SvcFail ∷ events.SvcSucc ∷ events.NoMemory ∷ []

abbrev pub event_of : ℕ → Option ConvEvent
event_of octet = pick event_octet all_events octet

-- the bit at that place
abbrev pub is_set : ℕ → ℕ → Bool
is_set octet place = octet / 2 ^ place % 2 == 1

abbrev pub flags_of : ℕ → Option CallFlags
flags_of octet = if nat_lt octet 32 then Some (record { no_block = is_set octet 0; no_time = is_set octet 1; no_reply = is_set octet 2; no_tran = is_set octet 3; sig_restart = is_set octet 4 }) else None

-- ---- numbers, words and data

abbrev pub number_at : Field ℕ
number_at octets = if nat_lt (length octets) 4 then None else Some (from_be_bytes w32 (take 4 octets), drop 4 octets)

abbrev pub signed_at : Field ℤ
signed_at octets = do
  n ← number_at octets
  Some (cast_signed w32 n.0, n.1)

abbrev pub long_at : Field ℕ
long_at octets = if nat_lt (length octets) 8 then None else Some (from_be_bytes w64 (take 8 octets), drop 8 octets)

unfoldable pub word_at : Field (List ℕ)
word_at octets = do
  n ← octet_at octets
  if nat_lt (length n.1) n.0 then None else Some (take n.0 n.1, drop n.0 n.1)

abbrev pub name_of : List ℕ → Option (List ℕ)
name_of octets = if is_name octets then Some octets else None

unfoldable pub name_at : Field (List ℕ)
name_at octets = do
  word ← word_at octets
  name ← name_of word.0
  Some (name, word.1)

unfoldable pub sized_of : Form (List ℕ)
sized_of octets = do
  n ← number_at octets
  if nat_le n.0 65_536 && (length n.1 == n.0) then Some n.1 else None

abbrev pub data_kind_form : ℕ → Field (Option Kind)
data_kind_form kind rest =
    if kind == 0 then Some (None, rest)
    else (if kind == 1 then Some (Some data_kinds.Octet, rest)
    else (if kind == 2 then name_at rest >>= (λ name. Some (Some (data_kinds.Struct name.0), name.1))
    else None))

unfoldable pub data_kind_at : Field (Option Kind)
data_kind_at octets = do
  kind ← octet_at octets
  data_kind_form kind.0 kind.1

abbrev pub typed : List ℕ × List ℕ → Data
typed v = Struct v.0 v.1

unfoldable pub struct_of : Form Data
struct_of = said typed (before name_at sized_of)

abbrev pub data_form : ℕ → Form Data
data_form kind rest =
    if kind == 0 then said (λ _. Absent) nothing rest
    else (if kind == 1 then said Octet sized_of rest
    else (if kind == 2 then struct_of rest
    else None))

unfoldable pub data_of : Form Data
data_of = by_octet data_form

-- ---- operations

abbrev pub flags_at : Field CallFlags
flags_at = octet_as flags_of

abbrev pub called : CallFlags × (List ℕ × (Option Kind × Data)) → Op
called v = ops.Call (record { service = v.1.0; payload = v.1.1.1; flags = v.0; expect = v.1.1.0; direction = Neither })

unfoldable pub call_of : Form Op
call_of = said called (before flags_at (before word_at (before data_kind_at data_of)))

abbrev pub acalled : CallFlags × (List ℕ × Data) → Op
acalled v = ops.Acall (record { service = v.1.0; payload = v.1.1; flags = v.0; expect = None; direction = Neither })

unfoldable pub acall_of : Form Op
acall_of = said acalled (before flags_at (before word_at data_of))

abbrev pub got : CallFlags × (ℕ × Option Kind) → Op
got v = ops.Get v.1.0 v.0 v.1.1

unfoldable pub get_of : Form Op
get_of = said got (before flags_at (before long_at (last data_kind_at)))

abbrev pub got_any : CallFlags × Option Kind → Op
got_any v = ops.GetAny v.0 v.1

unfoldable pub get_any_of : Form Op
get_any_of = said got_any (before flags_at (last data_kind_at))

unfoldable pub cancel_of : Form Op
cancel_of = said ops.Cancel (last long_at)

abbrev pub connected : CallFlags × (Direction × (List ℕ × Data)) → Op
connected v = ops.Connect (record { service = v.1.1.0; payload = v.1.1.1; flags = v.0; expect = None; direction = v.1.0 })

unfoldable pub connect_of : Form Op
connect_of = said connected (before flags_at (before (octet_as direction_of) (before word_at data_of)))

abbrev pub sent : CallFlags × (ℕ × (Bool × Data)) → Op
sent v = ops.Send v.1.0 v.0 v.1.1.0 v.1.1.1

unfoldable pub send_of : Form Op
send_of = said sent (before flags_at (before long_at (before (octet_as truth_of) data_of)))

abbrev pub received : CallFlags × ℕ → Op
received v = ops.Receive v.1 v.0

unfoldable pub receive_of : Form Op
receive_of = said received (before flags_at (last long_at))

unfoldable pub disconnect_of : Form Op
disconnect_of = said ops.Disconnect (last long_at)

abbrev pub prior : Bool × ℤ → Op
prior v = ops.Priority v.0 v.1

unfoldable pub priority_of : Form Op
priority_of = said prior (before (octet_as truth_of) (last signed_at))

abbrev pub advertised : List ℕ × List ℕ → Op
advertised v = ops.Advertise v.0 v.1

unfoldable pub advertise_of : Form Op
advertise_of = said advertised (before word_at (last word_at))

unfoldable pub unadvertise_of : Form Op
unadvertise_of = said ops.Unadvertise (last word_at)

unfoldable pub tick_of : Form Op
tick_of = said ops.Tick (last number_at)

abbrev pub op_form : ℕ → Form Op
op_form code rest =
    if code == 1 then call_of rest
    else (if code == 2 then acall_of rest
    else (if code == 3 then get_of rest
    else (if code == 4 then get_any_of rest
    else (if code == 5 then cancel_of rest
    else (if code == 6 then connect_of rest
    else (if code == 7 then send_of rest
    else (if code == 8 then receive_of rest
    else (if code == 9 then disconnect_of rest
    else (if code == 10 then priority_of rest
    else (if code == 11 then advertise_of rest
    else (if code == 12 then unadvertise_of rest
    else (if code == 13 then tick_of rest
    else None))))))))))))

-- ---- replies

abbrev pub coded_of : Form (ℤ × Data)
coded_of = before signed_at data_of

abbrev pub fault_at : Field Fault
fault_at = octet_as fault_of

abbrev pub succeeded : ℤ × Data → Answer
succeeded v = answers.Success v.0 v.1

abbrev pub failed : ℤ × Data → Answer
failed v = answers.Failed v.0 v.1

abbrev pub answer_form : ℕ → Form Answer
answer_form code rest =
    if code == 0 then said succeeded coded_of rest
    else (if code == 1 then said failed coded_of rest
    else (if code == 2 then said answers.Error (last fault_at) rest
    else None))

unfoldable pub answer_of : Form Answer
answer_of = by_octet answer_form

abbrev pub done_of : Form Reply
done_of = said (λ _. replies.Done) nothing

unfoldable pub descriptor_of : Form Reply
descriptor_of = said replies.Descriptor (last long_at)

unfoldable pub now_of : Form Reply
now_of = said replies.Now (last long_at)

abbrev pub answered : ℕ × Answer → Reply
answered v = replies.Answered v.0 v.1

unfoldable pub answered_of : Form Reply
answered_of = said answered (before long_at answer_of)

unfoldable pub message_of : Form Reply
message_of = said replies.Message data_of

abbrev pub evented : ConvEvent × (ℤ × Data) → Reply
evented v = replies.Event v.0 v.1.0 v.1.1

unfoldable pub event_reply_of : Form Reply
event_reply_of = said evented (before (octet_as event_of) coded_of)

unfoldable pub fault_reply_of : Form Reply
fault_reply_of = said replies.Fault (last fault_at)

abbrev pub reply_form : ℕ → Form Reply
reply_form code rest =
    if code == 0 then done_of rest
    else (if code == 1 then descriptor_of rest
    else (if code == 2 then now_of rest
    else (if code == 3 then answered_of rest
    else (if code == 4 then message_of rest
    else (if code == 5 then event_reply_of rest
    else (if code == 6 then fault_reply_of rest
    else None))))))

unfoldable pub op_of : Form Op
op_of = by_octet op_form

unfoldable pub reply_of : Form Reply
reply_of = by_octet reply_form

-- ---- bodies

abbrev pub returned : Rval × (ℤ × Data) → Body
returned v = bodies.Return v.0 v.1.0 v.1.1

abbrev pub forwarded : List ℕ × Data → Body
forwarded v = bodies.Forward v.0 v.1

abbrev pub invoked : List ℕ × (List ℕ × (Mode × Data)) → Body
invoked v = bodies.Invoke v.0 v.1.0 v.1.1.0 v.1.1.1

unfoldable pub return_of : Form Body
return_of = said returned (before (octet_as rval_of) coded_of)

unfoldable pub forward_of : Form Body
forward_of = said forwarded (before word_at data_of)

unfoldable pub invoke_of : Form Body
invoke_of = said invoked (before name_at (before name_at (before (octet_as mode_of) data_of)))

abbrev pub body_of : FrameKind → Form Body
body_of kinds.Ready = said bodies.Ready (last name_at)
body_of kinds.Next = said (λ _. bodies.Next) nothing
body_of kinds.Op = said bodies.Op op_of
body_of kinds.Return = return_of
body_of kinds.Forward = forward_of
body_of kinds.Invoke = invoke_of
body_of kinds.Reply = said bodies.Reply reply_of
body_of kinds.Shutdown = said (λ _. bodies.Shutdown) nothing

-- ---- headers

abbrev pub octet_of : FrameKind → ℕ
octet_of kinds.Ready = 0x01
octet_of kinds.Next = 0x02
octet_of kinds.Op = 0x03
octet_of kinds.Return = 0x04
octet_of kinds.Forward = 0x05
octet_of kinds.Invoke = 0x11
octet_of kinds.Reply = 0x12
octet_of kinds.Shutdown = 0x13

abbrev pub all_kinds : List FrameKind
all_kinds = kinds.Ready ∷ kinds.Next ∷ kinds.Op ∷ kinds.Return ∷ kinds.Forward ∷ kinds.Invoke ∷ kinds.Reply ∷ kinds.Shutdown ∷ []

abbrev pub kind_of : ℕ → Option FrameKind
kind_of octet = pick octet_of all_kinds octet

-- the most octets that a body of that kind has
abbrev pub most_octets : FrameKind → ℕ
most_octets kinds.Ready = 66_000
most_octets kinds.Next = 0
most_octets kinds.Op = 66_000
most_octets kinds.Return = 66_000
most_octets kinds.Forward = 66_000
most_octets kinds.Invoke = 66_000
most_octets kinds.Reply = 66_000
most_octets kinds.Shutdown = 0

-- the octets after the mark and the version
unfoldable pub after_mark : List ℕ → Option (List ℕ)
after_mark octets = do
  x ← octet_at octets
  a ← octet_at x.1
  version ← octet_at a.1
  if (x.0 == 0x58) && ((a.0 == 0x41) && (version.0 == 0x01)) then Some version.1 else None

unfoldable pub header_at : List ℕ → Option (Header × List ℕ)
header_at octets = do
  fields ← after_mark octets
  octet ← octet_at fields
  kind ← kind_of octet.0
  size ← number_at octet.1
  tag ← number_at size.1
  if nat_le size.0 (most_octets kind) then Some (record { kind = kind; size = size.0; tag = tag.0 }, tag.1) else None

-- what stands first: a frame and how many octets it has, less than a frame, or no frame
pub data Front : Type 0 where
  Whole : (frame : Frame) → (size : ℕ) → Front
  Partial : Front
  Malformed : Front

abbrev pub whole_of : Header → Option Body → Front
whole_of h None = Malformed
whole_of h (Some body) = Whole (record { tag = h.tag; body = body }) (12 + h.size)

abbrev pub front_after : Option (Header × List ℕ) → Front
front_after None = Malformed
front_after (Some h) = if nat_lt (length h.1) h.0.size then Partial else whole_of h.0 (body_of h.0.kind (take h.0.size h.1))

unfoldable pub front_at : List ℕ → Front
front_at octets = if nat_lt (length octets) 12 then Partial else front_after (header_at octets)

abbrev pub IsWhole : Front → Type 0
IsWhole (Whole frame size) = Unit {0}
IsWhole Partial = ⊥
IsWhole Malformed = ⊥

-- what a function returned is what stands first at that place, of so many octets; memory runs out only where a frame does
abbrev pub FailsAt : ℕ → NextRefused → Front → Type 0
FailsAt place (BadFrame at) front = (at ≡ place) × (front ≡ Malformed)
FailsAt place NoMemory front = IsWhole front

abbrev pub StandsAt : ℕ → Option Frame → Front → Type 0
StandsAt size None front = (size ≡ 0) × (front ≡ Partial)
StandsAt size (Some f) front = front ≡ Whole f size

abbrev pub Stands : ℕ → ℕ → Result (Option Frame) NextRefused → Front → Type 0
Stands place size (Ok found) front = StandsAt size found front
Stands place size (Err e) front = (size ≡ 0) × FailsAt place e front

-- the octets begin with that frame, which has so many of them
pub record IsFirst (octets : List ℕ) (f : Frame) (n : ℕ) : Type 0 where
  pub begins : Begins octets f (drop n octets)
  pub size : n ≡ length (spelled f)

-- the same as Stands, in the words of Stream
abbrev pub FailsFirst : List ℕ → ℕ → NextRefused → Type 0
FailsFirst octets place (BadFrame at) = (at ≡ place) × IsMalformed octets
FailsFirst octets place NoMemory = (f : Frame) × (more : List ℕ) × Begins octets f more

abbrev pub FoundFirst : List ℕ → ℕ → Option Frame → Type 0
FoundFirst octets size None = (size ≡ 0) × IsPartial octets
FoundFirst octets size (Some f) = IsFirst octets f size

abbrev pub StandsFirst : List ℕ → ℕ → ℕ → Result (Option Frame) NextRefused → Type 0
StandsFirst octets place size (Ok found) = FoundFirst octets size found
StandsFirst octets place size (Err e) = (size ≡ 0) × FailsFirst octets place e
