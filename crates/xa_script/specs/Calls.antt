-- How the code reads the rest of a line of each kind of call. No public contract rests on these.
use Rattle.std.specs.Prelude.{ℕ, zero, suc, ℤ, ◌&&◌, nat_le, nat_lt, Bool, true, false, if◌then◌else◌, List, length, codes, Option, Some, None, option_map, is_some, not, pos, negsuc}
use Rattle.std.specs.Str.{bytes_eq}
use Rattle.xa_types.specs.declared.setup.Setup.{Setup}
use Rattle.xa_types.specs.declared.call.Ask.{Ask}
use Rattle.xa_types.specs.declared.call.CallFlags.{CallFlags}
use Rattle.xa_types.specs.declared.call.Direction.{Direction}
use Rattle.xa_types.specs.declared.call.Direction.TheVariants as directions
use Rattle.xa_types.specs.declared.call.Op.{Op}
use Rattle.xa_types.specs.declared.call.Op.TheVariants as ops
use Rattle.xa_script.specs.declared.flags.Flags.{Flags}
use Rattle.xa_script.specs.declared.calls.Verb.{Verb}
use Rattle.xa_script.specs.declared.calls.Verb.TheVariants as verbs
use Rattle.xa_script.specs.Words.{◌>>=◌, word_at, next_word, is_blank, number_of, no_more}
use Rattle.xa_script.specs.Payload.{payload_at, signed_of}
pub use Rattle.xa_script.specs.Asked.{expect_of, kind_with, ask_with}

-- ---- flags

abbrev pub no_flags : CallFlags
no_flags = record { no_block = false; no_time = false; no_reply = false; no_tran = false; sig_restart = false }

-- one flag more, which doesn't stand already
unfoldable pub flagged : CallFlags → List ℕ → Option CallFlags
flagged flags word = if bytes_eq word (codes "noblock") then (if flags.no_block then None else Some (record flags { no_block = true }))
    else (if bytes_eq word (codes "notime") then (if flags.no_time then None else Some (record flags { no_time = true }))
    else (if bytes_eq word (codes "noreply") then (if flags.no_reply then None else Some (record flags { no_reply = true }))
    else (if bytes_eq word (codes "notran") then (if flags.no_tran then None else Some (record flags { no_tran = true }))
    else (if bytes_eq word (codes "sigrstrt") then (if flags.sig_restart then None else Some (record flags { sig_restart = true }))
    else None))))

-- `nochange KIND`, where such a call may have it and it doesn't stand already
unfoldable pub nochange_at : Setup → Bool → Flags → List ℕ → Option (Flags × List ℕ)
nochange_at setup buffered flags octets = if buffered && not (is_some flags.expect) then (do
  word ← word_at octets
  expect ← expect_of setup word.0
  Some (record flags { expect = Some expect }, word.1)) else None

-- one flag more by that word, and what stands behind it
unfoldable pub flag_by : Setup → Bool → Flags → List ℕ → List ℕ → Option (Flags × List ℕ)
flag_by setup buffered flags word octets = if bytes_eq word (codes "nochange") then nochange_at setup buffered flags octets
    else (flagged flags.call word >>= λ call. Some (record flags { call = call }, octets))

-- the flags that stand in the rest of the line, so many at most
unfoldable pub flags_from : ℕ → Setup → Bool → Flags → List ℕ → Option Flags
flags_from zero setup buffered flags octets = no_more flags octets
flags_from (suc n) setup buffered flags octets = if is_blank octets then Some flags else (do
  word ← word_at octets
  more ← flag_by setup buffered flags word.0 word.1
  flags_from n setup buffered more.0 more.1)

-- the flags that the rest of a line is: there are no more than octets
unfoldable pub flags_of : Setup → Bool → List ℕ → Option Flags
flags_of setup buffered octets = flags_from (length octets) setup buffered (record { call = no_flags; expect = None }) octets

-- ---- parts

-- a word of 1 to 255 octets
unfoldable pub service_at : List ℕ → Option (List ℕ × List ℕ)
service_at octets = do
  word ← word_at octets
  if nat_le (length word.0) 255 then Some word else None

-- a descriptor
unfoldable pub descriptor_at : List ℕ → Option (ℕ × List ℕ)
descriptor_at octets = do
  word ← word_at octets
  number ← number_of 0 18446744073709551615 word.0
  Some (number, word.1)

abbrev pub direction_of : List ℕ → Option Direction
direction_of word = if bytes_eq word (codes "send") then Some directions.SendOnly
    else (if bytes_eq word (codes "recv") then Some directions.RecvOnly
    else (if bytes_eq word (codes "both") then Some directions.Both
    else (if bytes_eq word (codes "neither") then Some directions.Neither
    else None)))

-- ---- calls

-- SERVICE DATA FLAGS
unfoldable pub ask_of : Setup → Bool → List ℕ → Option (Option Ask)
ask_of setup buffered octets = do
  service ← service_at octets
  payload ← payload_at setup service.1
  flags ← flags_of setup buffered payload.1
  Some (ask_with service.0 payload.0 flags directions.Neither)

-- DIRECTION FLAGS
unfoldable pub joined_of : Setup → List ℕ → Option (Direction × Flags)
joined_of setup octets = do
  word ← word_at octets
  direction ← direction_of word.0
  flags ← flags_of setup false word.1
  Some (direction, flags)

-- SERVICE DATA DIRECTION FLAGS
unfoldable pub connect_of : Setup → List ℕ → Option (Option Ask)
connect_of setup octets = do
  service ← service_at octets
  payload ← payload_at setup service.1
  joined ← joined_of setup payload.1
  Some (ask_with service.0 payload.0 joined.1 joined.0)

-- CD FLAGS
unfoldable pub get_of : Setup → List ℕ → Option (Option Op)
get_of setup octets = do
  descriptor ← descriptor_at octets
  flags ← flags_of setup true descriptor.1
  Some (option_map (ops.Get descriptor.0 flags.call) (kind_with flags.expect))

-- FLAGS
unfoldable pub get_any_of : Setup → List ℕ → Option (Option Op)
get_any_of setup octets = do
  flags ← flags_of setup true octets
  Some (option_map (ops.GetAny flags.call) (kind_with flags.expect))

-- `recv`, or nothing
abbrev pub passes_at : List ℕ → Bool × List ℕ
passes_at octets = let word = next_word octets in if bytes_eq word.0 (codes "recv") then (true, word.1) else (false, octets)

-- CD DATA FLAGS, or CD DATA recv FLAGS
unfoldable pub send_of : Setup → List ℕ → Option (Option Op)
send_of setup octets = do
  descriptor ← descriptor_at octets
  payload ← payload_at setup descriptor.1
  flags ← flags_of setup false (passes_at payload.1).1
  Some (option_map (ops.Send descriptor.0 flags.call (passes_at payload.1).0) payload.0)

-- CD FLAGS
unfoldable pub receive_of : Setup → List ℕ → Option (Option Op)
receive_of setup octets = do
  descriptor ← descriptor_at octets
  flags ← flags_of setup false descriptor.1
  Some (Some (ops.Receive descriptor.0 flags.call))

-- CD
unfoldable pub cancel_of : List ℕ → Option (Option Op)
cancel_of octets = do
  descriptor ← descriptor_at octets
  no_more (Some (ops.Cancel descriptor.0)) descriptor.1

unfoldable pub disconnect_of : List ℕ → Option (Option Op)
disconnect_of octets = do
  descriptor ← descriptor_at octets
  no_more (Some (ops.Disconnect descriptor.0)) descriptor.1

-- a number from -1,000 to 1,000
abbrev pub amount_of : Option ℤ → Option ℤ
amount_of (Some (pos n)) = if nat_le n 1000 then Some (pos n) else None
amount_of (Some (negsuc n)) = if nat_lt n 1000 then Some (negsuc n) else None
amount_of None = None

abbrev pub is_absolute : List ℕ → Option Bool
is_absolute word = if bytes_eq word (codes "abs") then Some true else (if bytes_eq word (codes "add") then Some false else None)

-- `abs N`, or `add N`
unfoldable pub priority_of : List ℕ → Option (Option Op)
priority_of octets = do
  word ← word_at octets
  absolute ← is_absolute word.0
  number ← word_at word.1
  value ← signed_of number.0
  amount ← amount_of value
  no_more (Some (ops.Priority absolute amount)) number.1

-- SERVICE ROUTINE
unfoldable pub advertise_of : List ℕ → Option (Option Op)
advertise_of octets = do
  service ← service_at octets
  routine ← service_at service.1
  no_more (Some (ops.Advertise service.0 routine.0)) routine.1

-- SERVICE
unfoldable pub unadvertise_of : List ℕ → Option (Option Op)
unadvertise_of octets = do
  service ← service_at octets
  no_more (Some (ops.Unadvertise service.0)) service.1

-- N
unfoldable pub tick_of : List ℕ → Option (Option Op)
tick_of octets = do
  word ← word_at octets
  number ← number_of 1 2147483647 word.0
  no_more (Some (ops.Tick number)) word.1

-- the kind of call that the first word names
abbrev pub verb_of : List ℕ → Option Verb
verb_of word = if bytes_eq word (codes "call") then Some verbs.Call
    else (if bytes_eq word (codes "acall") then Some verbs.Acall
    else (if bytes_eq word (codes "get") then Some verbs.Get
    else (if bytes_eq word (codes "getany") then Some verbs.GetAny
    else (if bytes_eq word (codes "cancel") then Some verbs.Cancel
    else (if bytes_eq word (codes "connect") then Some verbs.Connect
    else (if bytes_eq word (codes "send") then Some verbs.Send
    else (if bytes_eq word (codes "recv") then Some verbs.Receive
    else (if bytes_eq word (codes "discon") then Some verbs.Disconnect
    else (if bytes_eq word (codes "prio") then Some verbs.Priority
    else (if bytes_eq word (codes "advertise") then Some verbs.Advertise
    else (if bytes_eq word (codes "unadvertise") then Some verbs.Unadvertise
    else (if bytes_eq word (codes "tick") then Some verbs.Tick
    else None))))))))))))

-- the call that the rest of such a line is, if the setup takes each part; none where a word is missing, too many or not of its form
abbrev pub op_of : Setup → Verb → List ℕ → Option (Option Op)
op_of setup verbs.Call octets = ask_of setup true octets >>= λ ask. Some (option_map ops.Call ask)
op_of setup verbs.Acall octets = ask_of setup false octets >>= λ ask. Some (option_map ops.Acall ask)
op_of setup verbs.Get octets = get_of setup octets
op_of setup verbs.GetAny octets = get_any_of setup octets
op_of setup verbs.Cancel octets = cancel_of octets
op_of setup verbs.Connect octets = connect_of setup octets >>= λ ask. Some (option_map ops.Connect ask)
op_of setup verbs.Send octets = send_of setup octets
op_of setup verbs.Receive octets = receive_of setup octets
op_of setup verbs.Disconnect octets = disconnect_of octets
op_of setup verbs.Priority octets = priority_of octets
op_of setup verbs.Advertise octets = advertise_of octets
op_of setup verbs.Unadvertise octets = unadvertise_of octets
op_of setup verbs.Tick octets = tick_of octets
