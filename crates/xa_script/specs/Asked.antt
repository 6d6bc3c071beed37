-- The calls of a script: the parts of each kind of line, and the call that they say (this project's own). A line of that form may still have what the
-- setup doesn't take: then it says none.
use Rattle.std.specs.Prelude.{ℕ, ℤ, pos, negsuc, ◌≡◌, ◌≤◌, nat_le, nat_lt, Bool, true, false, if◌then◌else◌, List, [], ◌∷◌, ◌++◌, length, drop, take, codes, Option, Some, None, option_map}
use Rattle.std.specs.List.{list_all}
use Rattle.std.specs.Str.{bytes_eq}
use Rattle.xa_types.specs.Configured.{is_among, are_distinct}
use Rattle.xa_types.specs.declared.setup.Setup.{Setup}
use Rattle.xa_types.specs.declared.setup.ShapeSetup.{ShapeSetup}
use Rattle.xa_types.specs.declared.data.Data.{Data}
use Rattle.xa_types.specs.declared.data.Kind.{Kind}
use Rattle.xa_types.specs.declared.data.Kind.TheVariants as kinds
use Rattle.xa_types.specs.declared.call.Ask.{Ask}
use Rattle.xa_types.specs.declared.call.CallFlags.{CallFlags}
use Rattle.xa_types.specs.declared.call.Direction.{Direction}
use Rattle.xa_types.specs.declared.call.Direction.TheVariants.{SendOnly, RecvOnly, Both, Neither}
use Rattle.xa_types.specs.declared.call.Op.{Op}
use Rattle.xa_types.specs.declared.call.Op.TheVariants as ops
use Rattle.xa_script.specs.declared.flags.Flags.{Flags}
use Rattle.xa_buffer.specs.Contents.{shape_of}
use Rattle.xa_script.specs.Parts.{IsWord, number_of}
use Rattle.xa_script.specs.Sent.{signed_of, IsData}

-- ---- flags

abbrev pub shape_kind : ShapeSetup → Kind
shape_kind shape = kinds.Struct shape.name

-- the kind of a TPNOCHANGE buffer: `octet`, or `c:` and a shape, which the setup may not have
unfoldable pub expect_of : Setup → List ℕ → Option (Option Kind)
expect_of setup word = if bytes_eq word (codes "octet") then Some (Some kinds.Octet)
    else (if bytes_eq (take 2 word) (codes "c:") then Some (option_map shape_kind (shape_of setup.shapes (drop 2 word))) else None)

-- the flags that stand among these words
abbrev pub flags_among : List (List ℕ) → CallFlags
flags_among words = record {
  no_block = is_among words (codes "noblock");
  no_time = is_among words (codes "notime");
  no_reply = is_among words (codes "noreply");
  no_tran = is_among words (codes "notran");
  sig_restart = is_among words (codes "sigrstrt");
}

abbrev pub flag_words : List (List ℕ)
flag_words = codes "noblock" ∷ codes "notime" ∷ codes "noreply" ∷ codes "notran" ∷ codes "sigrstrt" ∷ []

-- flags, each once at most, in any order
pub record AreMarks (words : List (List ℕ)) : Type 0 where
  pub known : list_all (is_among flag_words) words ≡ true
  pub once : are_distinct words ≡ true

abbrev pub flags_with : List (List ℕ) → Option (Option Kind) → Flags
flags_with words expect = record { call = flags_among words; expect = expect }

-- FLAGS; `nochange KIND` may stand anywhere among them where the call has a buffer
pub data AreFlags (setup : Setup) (buffered : Bool) : List (List ℕ) → Flags → Type 0 where
  plain : (words : List (List ℕ)) → AreMarks words → AreFlags setup buffered words (flags_with words None)
  nochange : (before after : List (List ℕ)) (word : List ℕ) (kind : Option Kind) → buffered ≡ true → IsWord word → expect_of setup word ≡ Some kind → AreMarks (before ++ after)
      → AreFlags setup buffered (before ++ codes "nochange" ∷ word ∷ after) (flags_with (before ++ after) (Some kind))

-- ---- other parts

-- SERVICE and ROUTINE
pub record IsService (word : List ℕ) : Type 0 where
  pub is_word : IsWord word
  pub short : length word ≤ 255

-- CD
abbrev pub descriptor_of : List ℕ → Option ℕ
descriptor_of word = number_of 0 18446744073709551615 word

abbrev pub direction_word : Direction → List ℕ
direction_word SendOnly = codes "send"
direction_word RecvOnly = codes "recv"
direction_word Both = codes "both"
direction_word Neither = codes "neither"

-- whether a priority is set, and not added
abbrev pub absolute_word : Bool → List ℕ
absolute_word true = codes "abs"
absolute_word false = codes "add"

-- from -1,000 to 1,000
abbrev pub is_amount : ℤ → Bool
is_amount (pos n) = nat_le n 1000
is_amount (negsuc n) = nat_lt n 1000

-- the kind of a buffer, if the setup takes it
abbrev pub kind_with : Option (Option Kind) → Option (Option Kind)
kind_with None = Some None
kind_with (Some None) = None
kind_with (Some (Some kind)) = Some (Some kind)

-- what is asked, if the setup takes each part
abbrev pub ask_with : List ℕ → Option Data → Flags → Direction → Option Ask
ask_with service None flags direction = None
ask_with service (Some payload) flags direction = option_map (λ (kind : Option Kind). record { service = service; payload = payload; flags = flags.call; expect = kind; direction = direction }) (kind_with flags.expect)

-- ---- calls

abbrev pub call_words : List (List ℕ)
call_words = codes "call" ∷ codes "acall" ∷ codes "get" ∷ codes "getany" ∷ codes "cancel" ∷ codes "connect" ∷ codes "send" ∷ codes "recv"
    ∷ codes "discon" ∷ codes "prio" ∷ codes "advertise" ∷ codes "unadvertise" ∷ codes "tick" ∷ []

-- the parts of a line, and its call
pub data IsCall (setup : Setup) : List (List ℕ) → Option Op → Type 0 where
  call : (service : List ℕ) (sent words : List (List ℕ)) (payload : Option Data) (flags : Flags) → IsService service → IsData setup sent payload → AreFlags setup true words flags
      → IsCall setup (codes "call" ∷ service ∷ (sent ++ words)) (option_map ops.Call (ask_with service payload flags Neither))
  acall : (service : List ℕ) (sent words : List (List ℕ)) (payload : Option Data) (flags : Flags) → IsService service → IsData setup sent payload → AreFlags setup false words flags
      → IsCall setup (codes "acall" ∷ service ∷ (sent ++ words)) (option_map ops.Acall (ask_with service payload flags Neither))
  get : (cd : List ℕ) (words : List (List ℕ)) (descriptor : ℕ) (flags : Flags) → descriptor_of cd ≡ Some descriptor → AreFlags setup true words flags
      → IsCall setup (codes "get" ∷ cd ∷ words) (option_map (ops.Get descriptor flags.call) (kind_with flags.expect))
  getany : (words : List (List ℕ)) (flags : Flags) → AreFlags setup true words flags
      → IsCall setup (codes "getany" ∷ words) (option_map (ops.GetAny flags.call) (kind_with flags.expect))
  cancel : (cd : List ℕ) (descriptor : ℕ) → descriptor_of cd ≡ Some descriptor → IsCall setup (codes "cancel" ∷ cd ∷ []) (Some (ops.Cancel descriptor))
  connect : (service : List ℕ) (sent words : List (List ℕ)) (payload : Option Data) (direction : Direction) (flags : Flags) → IsService service → IsData setup sent payload
      → AreFlags setup false words flags
      → IsCall setup (codes "connect" ∷ service ∷ (sent ++ direction_word direction ∷ words)) (option_map ops.Connect (ask_with service payload flags direction))
  send : (cd : List ℕ) (sent words : List (List ℕ)) (descriptor : ℕ) (payload : Option Data) (flags : Flags) → descriptor_of cd ≡ Some descriptor → IsData setup sent payload
      → AreFlags setup false words flags → IsCall setup (codes "send" ∷ cd ∷ (sent ++ words)) (option_map (ops.Send descriptor flags.call false) payload)
  send_recv : (cd : List ℕ) (sent words : List (List ℕ)) (descriptor : ℕ) (payload : Option Data) (flags : Flags) → descriptor_of cd ≡ Some descriptor → IsData setup sent payload
      → AreFlags setup false words flags → IsCall setup (codes "send" ∷ cd ∷ (sent ++ codes "recv" ∷ words)) (option_map (ops.Send descriptor flags.call true) payload)
  recv : (cd : List ℕ) (words : List (List ℕ)) (descriptor : ℕ) (flags : Flags) → descriptor_of cd ≡ Some descriptor → AreFlags setup false words flags
      → IsCall setup (codes "recv" ∷ cd ∷ words) (Some (ops.Receive descriptor flags.call))
  discon : (cd : List ℕ) (descriptor : ℕ) → descriptor_of cd ≡ Some descriptor → IsCall setup (codes "discon" ∷ cd ∷ []) (Some (ops.Disconnect descriptor))
  prio : (absolute : Bool) (number : List ℕ) (amount : ℤ) → signed_of number ≡ Some (Some amount) → is_amount amount ≡ true
      → IsCall setup (codes "prio" ∷ absolute_word absolute ∷ number ∷ []) (Some (ops.Priority absolute amount))
  advertise : (service routine : List ℕ) → IsService service → IsService routine → IsCall setup (codes "advertise" ∷ service ∷ routine ∷ []) (Some (ops.Advertise service routine))
  unadvertise : (service : List ℕ) → IsService service → IsCall setup (codes "unadvertise" ∷ service ∷ []) (Some (ops.Unadvertise service))
  tick : (word : List ℕ) (number : ℕ) → number_of 1 2147483647 word ≡ Some number → IsCall setup (codes "tick" ∷ word ∷ []) (Some (ops.Tick number))
