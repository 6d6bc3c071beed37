-- Frames as octets (this project's own). Numbers are big-endian, and signed ones two's complement.
use Rattle.std.specs.Prelude.{ℕ, ℤ, ◌≡◌, ◌≤◌, ◌<◌, ◌+◌, ◌*◌, ◌^◌, ⊤, Bool, if◌then◌else◌, Option, Some, None, List, [], ◌∷◌, ◌++◌, length, FitsSigned}
use Rattle.std.specs.Int.{w32, cast_unsigned}
use Rattle.std.specs.List.{flat_map}
use Rattle.byteorder.specs.Endian.{big_bytes}
use Rattle.xa_types.specs.Name.{IsName}
use Rattle.xa_types.specs.declared.data.Data.{Data}
use Rattle.xa_types.specs.declared.data.Data.TheVariants.{Absent, Octet, Struct}
use Rattle.xa_types.specs.declared.data.Kind.{Kind}
use Rattle.xa_types.specs.declared.data.Kind.TheVariants as kinds
use Rattle.xa_types.specs.declared.call.CallFlags.{CallFlags}
use Rattle.xa_types.specs.declared.call.Direction.{Direction}
use Rattle.xa_types.specs.declared.call.Direction.TheVariants.{Neither, SendOnly, RecvOnly, Both}
use Rattle.xa_types.specs.declared.call.Op.{Op}
use Rattle.xa_types.specs.declared.call.Op.TheVariants as ops
use Rattle.xa_types.specs.declared.call.Mode.{Mode}
use Rattle.xa_types.specs.declared.call.Mode.TheVariants as modes
use Rattle.xa_types.specs.declared.call.Rval.{Rval}
use Rattle.xa_types.specs.declared.call.Rval.TheVariants as rvals
use Rattle.xa_types.specs.declared.fault.Fault.{Fault}
use Rattle.xa_types.specs.declared.fault.Fault.TheVariants as faults
use Rattle.xa_types.specs.declared.fault.ConvEvent.{ConvEvent}
use Rattle.xa_types.specs.declared.fault.ConvEvent.TheVariants as events
use Rattle.xa_types.specs.declared.reply.Answer.{Answer}
use Rattle.xa_types.specs.declared.reply.Answer.TheVariants as answers
use Rattle.xa_types.specs.declared.reply.Reply.{Reply}
use Rattle.xa_types.specs.declared.reply.Reply.TheVariants as replies
use Rattle.xa_frame.specs.declared.frame.Frame.{Frame}
use Rattle.xa_frame.specs.declared.frame.Body.{Body}
use Rattle.xa_frame.specs.declared.frame.Body.TheVariants as bodies

-- ---- fields

-- a length of one octet, and so many octets
abbrev pub word : List ℕ → List ℕ
word octets = length octets ∷ octets

-- a length of four octets, and so many octets
abbrev pub sized : List ℕ → List ℕ
sized octets = big_bytes 4 (length octets) ++ octets

-- a signed number of four octets
abbrev pub signed : ℤ → List ℕ
signed code = big_bytes 4 (cast_unsigned w32 code)

-- the kind of a buffer, for X_C_TYPE with its subtype; none is 0
abbrev pub data_kind_octets : Option Kind → List ℕ
data_kind_octets None = 0x00 ∷ []
data_kind_octets (Some kinds.Octet) = 0x01 ∷ []
data_kind_octets (Some (kinds.Struct subtype)) = 0x02 ∷ word subtype

-- the kind of the data, for X_C_TYPE its subtype, and its octets
abbrev pub data_octets : Data → List ℕ
data_octets Absent = 0x00 ∷ []
data_octets (Octet octets) = 0x01 ∷ sized octets
data_octets (Struct subtype octets) = 0x02 ∷ (word subtype ++ sized octets)

abbrev pub bit : Bool → ℕ
bit set = if set then 1 else 0

-- TPNOBLOCK is 1, TPNOTIME 2, TPNOREPLY 4, TPNOTRAN 8, TPSIGRSTRT 16
abbrev pub flags_octet : CallFlags → ℕ
flags_octet f = bit f.no_block + (2 * bit f.no_time + (4 * bit f.no_reply + (8 * bit f.no_tran + 16 * bit f.sig_restart)))

abbrev pub direction_octet : Direction → ℕ
direction_octet Neither = 0
direction_octet SendOnly = 1
direction_octet RecvOnly = 2
direction_octet Both = 3

abbrev pub rval_octet : Rval → ℕ
rval_octet rvals.Success = 0
rval_octet rvals.Fail = 1
rval_octet rvals.Exit = 2

abbrev pub mode_octet : Mode → ℕ
mode_octet modes.Reply = 0
mode_octet modes.NoReply = 1
mode_octet modes.ConvReceives = 2
mode_octet modes.ConvSends = 3

abbrev pub fault_octet : Fault → ℕ
fault_octet faults.Inval = 1
fault_octet faults.NoEnt = 2
fault_octet faults.IType = 3
fault_octet faults.OType = 4
fault_octet faults.BadDesc = 5
fault_octet faults.Limit = 6
fault_octet faults.Block = 7
fault_octet faults.Time = 8
fault_octet faults.Proto = 9
fault_octet faults.System = 10
fault_octet faults.Match = 11
fault_octet faults.SvcFail = 12
fault_octet faults.SvcErr = 13
fault_octet faults.Event = 14
fault_octet faults.NoMemory = 15

abbrev pub event_octet : ConvEvent → ℕ
event_octet events.DisconImm = 1
event_octet events.SendOnly = 2
event_octet events.SvcErr = 3
event_octet events.SvcFail = 4
event_octet events.SvcSucc = 5
event_octet events.NoMemory = 6

-- ---- bodies

abbrev pub op_octets : Op → List ℕ
op_octets (ops.Call ask) = 1 ∷ flags_octet ask.flags ∷ (word ask.service ++ (data_kind_octets ask.expect ++ data_octets ask.payload))
op_octets (ops.Acall ask) = 2 ∷ flags_octet ask.flags ∷ (word ask.service ++ data_octets ask.payload)
op_octets (ops.Get descriptor flags expect) = 3 ∷ flags_octet flags ∷ (big_bytes 8 descriptor ++ data_kind_octets expect)
op_octets (ops.GetAny flags expect) = 4 ∷ flags_octet flags ∷ data_kind_octets expect
op_octets (ops.Cancel descriptor) = 5 ∷ big_bytes 8 descriptor
op_octets (ops.Connect ask) = 6 ∷ flags_octet ask.flags ∷ direction_octet ask.direction ∷ (word ask.service ++ data_octets ask.payload)
op_octets (ops.Send descriptor flags recv_only payload) = 7 ∷ flags_octet flags ∷ (big_bytes 8 descriptor ++ bit recv_only ∷ data_octets payload)
op_octets (ops.Receive descriptor flags) = 8 ∷ flags_octet flags ∷ big_bytes 8 descriptor
op_octets (ops.Disconnect descriptor) = 9 ∷ big_bytes 8 descriptor
op_octets (ops.Priority absolute amount) = 10 ∷ bit absolute ∷ signed amount
op_octets (ops.Advertise service routine) = 11 ∷ (word service ++ word routine)
op_octets (ops.Unadvertise service) = 12 ∷ word service
op_octets (ops.Tick ticks) = 13 ∷ big_bytes 4 ticks

abbrev pub answer_octets : Answer → List ℕ
answer_octets (answers.Success code payload) = 0 ∷ (signed code ++ data_octets payload)
answer_octets (answers.Failed code payload) = 1 ∷ (signed code ++ data_octets payload)
answer_octets (answers.Error fault) = 2 ∷ fault_octet fault ∷ []

abbrev pub reply_octets : Reply → List ℕ
reply_octets replies.Done = 0 ∷ []
reply_octets (replies.Descriptor descriptor) = 1 ∷ big_bytes 8 descriptor
reply_octets (replies.Now now) = 2 ∷ big_bytes 8 now
reply_octets (replies.Answered descriptor answer) = 3 ∷ (big_bytes 8 descriptor ++ answer_octets answer)
reply_octets (replies.Message payload) = 4 ∷ data_octets payload
reply_octets (replies.Event event code payload) = 5 ∷ event_octet event ∷ (signed code ++ data_octets payload)
reply_octets (replies.Fault fault) = 6 ∷ fault_octet fault ∷ []

abbrev pub body_octets : Body → List ℕ
body_octets (bodies.Ready name) = word name
body_octets bodies.Next = []
body_octets (bodies.Op op) = op_octets op
body_octets (bodies.Return value code payload) = rval_octet value ∷ (signed code ++ data_octets payload)
body_octets (bodies.Forward service payload) = word service ++ data_octets payload
body_octets (bodies.Invoke service routine mode payload) = word service ++ (word routine ++ mode_octet mode ∷ data_octets payload)
body_octets (bodies.Reply reply) = reply_octets reply
body_octets bodies.Shutdown = []

-- ---- frames

abbrev pub kind_octet : Body → ℕ
kind_octet (bodies.Ready name) = 0x01
kind_octet bodies.Next = 0x02
kind_octet (bodies.Op op) = 0x03
kind_octet (bodies.Return value code payload) = 0x04
kind_octet (bodies.Forward service payload) = 0x05
kind_octet (bodies.Invoke service routine mode payload) = 0x11
kind_octet (bodies.Reply reply) = 0x12
kind_octet bodies.Shutdown = 0x13

-- the twelve octets of a header: "XA", version 1, the kind, how many octets the body has, and the tag
abbrev pub header : ℕ → ℕ → ℕ → List ℕ
header kind size tag = 0x58 ∷ 0x41 ∷ 0x01 ∷ kind ∷ (big_bytes 4 size ++ big_bytes 4 tag)

-- a frame is a header and a body
abbrev pub spelled : Frame → List ℕ
spelled f = header (kind_octet f.body) (length (body_octets f.body)) f.tag ++ body_octets f.body

-- frames, one after another
abbrev pub all_spelled : List Frame → List ℕ
all_spelled frames = flat_map spelled frames

-- ---- what has a spelling

-- a word has at most 255 octets
abbrev pub IsWord : List ℕ → Type 0
IsWord octets = length octets ≤ 255

-- a subtype is a name
abbrev pub IsDataKind : Option Kind → Type 0
IsDataKind None = ⊤
IsDataKind (Some kinds.Octet) = ⊤
IsDataKind (Some (kinds.Struct subtype)) = IsName subtype

-- data has at most 65,536 octets, and a subtype is a name
abbrev pub IsData : Data → Type 0
IsData Absent = ⊤
IsData (Octet octets) = length octets ≤ 65_536
IsData (Struct subtype octets) = IsName subtype × (length octets ≤ 65_536)

-- numbers fit, and an ask has no kind and no direction where its operation has no place for them
abbrev pub IsOp : Op → Type 0
IsOp (ops.Call ask) = IsWord ask.service × IsDataKind ask.expect × IsData ask.payload × (ask.direction ≡ Neither)
IsOp (ops.Acall ask) = IsWord ask.service × IsData ask.payload × (ask.expect ≡ None) × (ask.direction ≡ Neither)
IsOp (ops.Get descriptor flags expect) = (descriptor < 2 ^ 64) × IsDataKind expect
IsOp (ops.GetAny flags expect) = IsDataKind expect
IsOp (ops.Cancel descriptor) = descriptor < 2 ^ 64
IsOp (ops.Connect ask) = IsWord ask.service × IsData ask.payload × (ask.expect ≡ None)
IsOp (ops.Send descriptor flags recv_only payload) = (descriptor < 2 ^ 64) × IsData payload
IsOp (ops.Receive descriptor flags) = descriptor < 2 ^ 64
IsOp (ops.Disconnect descriptor) = descriptor < 2 ^ 64
IsOp (ops.Priority absolute amount) = FitsSigned w32 amount
IsOp (ops.Advertise service routine) = IsWord service × IsWord routine
IsOp (ops.Unadvertise service) = IsWord service
IsOp (ops.Tick ticks) = ticks < 2 ^ 32

abbrev pub IsAnswer : Answer → Type 0
IsAnswer (answers.Success code payload) = FitsSigned w32 code × IsData payload
IsAnswer (answers.Failed code payload) = FitsSigned w32 code × IsData payload
IsAnswer (answers.Error fault) = ⊤

abbrev pub IsReply : Reply → Type 0
IsReply replies.Done = ⊤
IsReply (replies.Descriptor descriptor) = descriptor < 2 ^ 64
IsReply (replies.Now now) = now < 2 ^ 64
IsReply (replies.Answered descriptor answer) = (descriptor < 2 ^ 64) × IsAnswer answer
IsReply (replies.Message payload) = IsData payload
IsReply (replies.Event event code payload) = FitsSigned w32 code × IsData payload
IsReply (replies.Fault fault) = ⊤

-- names are names, words are short, a code fits 32 bits, and data is as above
abbrev pub IsBody : Body → Type 0
IsBody (bodies.Ready name) = IsName name
IsBody bodies.Next = ⊤
IsBody (bodies.Op op) = IsOp op
IsBody (bodies.Return value code payload) = FitsSigned w32 code × IsData payload
IsBody (bodies.Forward service payload) = IsWord service × IsData payload
IsBody (bodies.Invoke service routine mode payload) = IsName service × IsName routine × IsData payload
IsBody (bodies.Reply reply) = IsReply reply
IsBody bodies.Shutdown = ⊤

-- what has a spelling; its body has at most 66,000 octets then
pub record HasSpelling (f : Frame) : Type 0 where
  pub tag : f.tag < 2 ^ 32
  pub body : IsBody f.body
