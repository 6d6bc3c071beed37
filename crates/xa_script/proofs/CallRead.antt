-- The calls of a script: that the lines are read as they say.
use Rattle.std.proofs.Common.{◌≡◌, ℕ, ℤ, pos, negsuc, nat_lt, nat_le, Bool, true, false, cond, List, [], ◌∷◌, ◌++◌, length, codes, Option, Some, None, inl, inr, refl, ap, sym, ◌∙◌, subst, arith}
use Rattle.std.specs.Prelude.{option_map}
use Rattle.std.specs.List.{list_all}
use Rattle.std.specs.Str.{bytes_eq}
use Rattle.std.proofs.lemmas.Bool.Decides.{nat_tests}
use Rattle.std.proofs.lemmas.Slice.Eq.{bytes_eq-Decides}
use Rattle.xa_types.specs.Configured.{is_among}
use Rattle.xa_types.specs.declared.setup.Setup.{Setup}
use Rattle.xa_types.specs.declared.data.Data.{Data}
use Rattle.xa_types.specs.declared.call.Ask.{Ask}
use Rattle.xa_types.specs.declared.call.Direction.{Direction}
use Rattle.xa_types.specs.declared.call.Direction.TheVariants.{SendOnly, RecvOnly, Both, Neither}
use Rattle.xa_types.specs.declared.call.Op.{Op}
use Rattle.xa_types.specs.declared.call.Op.TheVariants as ops
use Rattle.xa_script.specs.declared.flags.Flags.{Flags}
use Rattle.xa_script.specs.declared.calls.Verb.{Verb}
use Rattle.xa_script.specs.declared.calls.Verb.TheVariants as verbs
use Rattle.xa_script.specs.Parts.{IsWord, IsInFront, IsSpaced, number_of}
use Rattle.xa_script.specs.Words.{◌>>=◌, next_word, word_at, no_more}
use Rattle.xa_script.specs.Sent.{signed_of, is_other, IsData}
use Rattle.xa_script.specs.Payload.{payload_at, has_field}
use Rattle.xa_script.specs.Asked.{flag_words, AreFlags, IsService, descriptor_of, direction_word, absolute_word, is_amount, kind_with, ask_with, call_words, IsCall, call, acall, get, getany, cancel, connect, send, send_recv, recv, discon, prio, advertise, unadvertise, tick}
use Rattle.xa_script.specs.Calls.{service_at, descriptor_at, direction_of, ask_of, joined_of, connect_of, get_of, get_any_of, passes_at, send_of, receive_of, cancel_of, disconnect_of, amount_of, is_absolute, priority_of, advertise_of, unadvertise_of, tick_of, verb_of, op_of, flags_of}
use Rattle.xa_script.specs.Script.{IsCallLine}
use Rattle.xa_script.proofs.Texts.{some_is}
use Rattle.xa_script.proofs.Fronts.{Cut, cut_at, next_front, next_is, word_read, word_again}
use Rattle.xa_script.proofs.PartsRead.{bound, both, no_more_read, no_more_again, spaced_join, spaced_split, number_word, signed_word, by_among, one_of, none_of}
use Rattle.xa_script.proofs.SentRead.{sending, payload_read, payload_again, closed}
use Rattle.xa_script.proofs.FlagsSaid.{flags_read, flags_again, flags_bare, no_field, Starts, flags_start}

tested : {A : Type 0} (b : Bool) (x y : A) → cond b (Some x) None ≡ Some y → (b ≡ true) × (x ≡ y)
tested true x y h = (refl, some_is x y h)
tested false x y h = absurd cc

same_word : (word other : List ℕ) → bytes_eq word other ≡ true → word ≡ other
same_word word other h = (bytes_eq-Decides word other).0 h

-- ---- parts

service_read : (octets : List ℕ) (at : Cut) → service_at octets ≡ Some at → IsService at.0 × IsInFront at.0 at.1 octets
unfolding service_at
service_read octets at h =
    let word = bound (word_at octets) (λ word. cond (nat_le (length word.0) 255) (Some word) None) at h in
    let is = word_read octets word.at.0 word.at.1 word.is in
    let test = tested (nat_le (length word.at.0) 255) word.at at word.then in
    let low = test.0 in
    subst (λ (c : Cut). IsService c.0 × IsInFront c.0 c.1 octets) test.1 (record { is_word = is.0; short = grind (arith, nat_tests, low) }, is.1)

service_again : (word rest octets : List ℕ) → IsService word → IsInFront word rest octets → service_at octets ≡ Some (cut_at word rest)
unfolding service_at
service_again word rest octets is front =
    let short = is.short in
    let low : nat_le (length word) 255 ≡ true = grind (arith, nat_tests, short) in
    both (word_at octets) (λ word. cond (nat_le (length word.0) 255) (Some word) None) (cut_at word rest) _ (word_again octets word rest is.is_word front) (ap (λ b. cond b (Some (cut_at word rest)) None) low)

abbrev Numbered : Type 0
Numbered = ℕ × List ℕ

abbrev numbered : ℕ → List ℕ → Numbered
numbered n rest = (n, rest)

record IsNumbered (octets : List ℕ) (at : Numbered) : Type 0 where
  pub word : List ℕ
  pub is : descriptor_of word ≡ Some at.0
  pub front : IsInFront word at.1 octets

descriptor_read : (octets : List ℕ) (at : Numbered) → descriptor_at octets ≡ Some at → IsNumbered octets at
unfolding descriptor_at
descriptor_read octets at h =
    let word = bound (word_at octets) (λ word. number_of 0 18446744073709551615 word.0 >>= λ number. Some (number, word.1)) at h in
    let number = bound (number_of 0 18446744073709551615 word.at.0) (λ number. Some (number, word.at.1)) at word.then in
    let is = word_read octets word.at.0 word.at.1 word.is in
    subst (IsNumbered octets) (some_is (numbered number.at word.at.1) at number.then) (record { word = word.at.0; is = number.is; front = is.1 })

descriptor_again : (word rest octets : List ℕ) (number : ℕ) → descriptor_of word ≡ Some number → IsInFront word rest octets → descriptor_at octets ≡ Some (numbered number rest)
unfolding descriptor_at
descriptor_again word rest octets number is front =
    both (word_at octets) (λ word. number_of 0 18446744073709551615 word.0 >>= λ number. Some (number, word.1)) (cut_at word rest) _
    (word_again octets word rest (number_word 0 18446744073709551615 word number is) front)
    (both (number_of 0 18446744073709551615 word) (λ number. Some (number, rest)) number _ is refl)

abbrev direction_words : List (List ℕ)
direction_words = codes "send" ∷ codes "recv" ∷ codes "both" ∷ codes "neither" ∷ []

direction_known : (word : List ℕ) (direction : Direction) → direction_of word ≡ Some direction → is_among direction_words word ≡ true
direction_known word direction h =
    one_of (bytes_eq word (codes "send")) _ _ direction _ h (λ h. one_of (bytes_eq word (codes "recv")) _ _ direction _ h (λ h. one_of (bytes_eq word (codes "both")) _ _ direction _ h
    (λ h. one_of (bytes_eq word (codes "neither")) _ _ direction _ h (λ h. none_of direction h))))

direction_read : (word : List ℕ) (direction : Direction) → direction_of word ≡ Some direction → word ≡ direction_word direction
direction_read word direction h = by_among (λ word. direction_of word ≡ Some direction → word ≡ direction_word direction) direction_words word (
  λ k. ap direction_word (some_is SendOnly direction k),
  (λ k. ap direction_word (some_is RecvOnly direction k), (λ k. ap direction_word (some_is Both direction k), (λ k. ap direction_word (some_is Neither direction k), tt))),
) (direction_known word direction h) h

direction_again : (direction : Direction) → direction_of (direction_word direction) ≡ Some direction
direction_again SendOnly = refl
direction_again RecvOnly = refl
direction_again Both = refl
direction_again Neither = refl

direction_is_word : (direction : Direction) → IsWord (direction_word direction)
direction_is_word SendOnly = closed (codes "send") refl refl
direction_is_word RecvOnly = closed (codes "recv") refl refl
direction_is_word Both = closed (codes "both") refl refl
direction_is_word Neither = closed (codes "neither") refl refl

direction_other : (direction : Direction) → list_all is_other (direction_word direction) ≡ true
direction_other SendOnly = refl
direction_other RecvOnly = refl
direction_other Both = refl
direction_other Neither = refl

absolute_known : (word : List ℕ) (absolute : Bool) → is_absolute word ≡ Some absolute → is_among (codes "abs" ∷ codes "add" ∷ []) word ≡ true
absolute_known word absolute h = one_of (bytes_eq word (codes "abs")) _ _ absolute _ h (λ h. one_of (bytes_eq word (codes "add")) _ _ absolute _ h (λ h. none_of absolute h))

absolute_read : (word : List ℕ) (absolute : Bool) → is_absolute word ≡ Some absolute → word ≡ absolute_word absolute
absolute_read word absolute h = by_among (λ word. is_absolute word ≡ Some absolute → word ≡ absolute_word absolute) (codes "abs" ∷ codes "add" ∷ []) word
    (λ k. ap absolute_word (some_is true absolute k), (λ k. ap absolute_word (some_is false absolute k), tt)) (absolute_known word absolute h) h

absolute_again : (absolute : Bool) → is_absolute (absolute_word absolute) ≡ Some absolute
absolute_again true = refl
absolute_again false = refl

absolute_is_word : (absolute : Bool) → IsWord (absolute_word absolute)
absolute_is_word true = closed (codes "abs") refl refl
absolute_is_word false = closed (codes "add") refl refl

amount_read : (value : Option ℤ) (amount : ℤ) → amount_of value ≡ Some amount → (value ≡ Some amount) × (is_amount amount ≡ true)
amount_read None amount h = absurd cc
amount_read (Some (pos n)) amount h = let t = tested (nat_le n 1000) (pos n) amount h in (ap (λ z. Some z) t.1, ap is_amount (sym t.1) ∙ t.0)
amount_read (Some (negsuc n)) amount h = let t = tested (nat_lt n 1000) (negsuc n) amount h in (ap (λ z. Some z) t.1, ap is_amount (sym t.1) ∙ t.0)

amount_again : (amount : ℤ) → is_amount amount ≡ true → amount_of (Some amount) ≡ Some amount
amount_again (pos n) h = ap (λ b. cond b (Some (pos n)) None) h
amount_again (negsuc n) h = ap (λ b. cond b (Some (negsuc n)) None) h

-- ---- what is asked

record IsAsked (setup : Setup) (buffered : Bool) (octets : List ℕ) (ask : Option Ask) : Type 0 where
  pub service : List ℕ
  pub sent : List (List ℕ)
  pub words : List (List ℕ)
  pub payload : Option Data
  pub flags : Flags
  pub is_service : IsService service
  pub is_data : IsData setup sent payload
  pub are_flags : AreFlags setup buffered words flags
  pub spaced : IsSpaced (service ∷ (sent ++ words)) octets
  pub ask_is : ask_with service payload flags Neither ≡ ask

ask_read : (setup : Setup) (buffered : Bool) (octets : List ℕ) (ask : Option Ask) → ask_of setup buffered octets ≡ Some ask → IsAsked setup buffered octets ask
unfolding ask_of
ask_read setup buffered octets ask h =
    let service = bound (service_at octets) (λ service. payload_at setup service.1 >>= λ payload. flags_of setup buffered payload.1 >>= λ flags. Some (ask_with service.0 payload.0 flags Neither)) ask h in
    let payload = bound (payload_at setup service.at.1) (λ payload. flags_of setup buffered payload.1 >>= λ flags. Some (ask_with service.at.0 payload.0 flags Neither)) ask service.then in
    let flags = bound (flags_of setup buffered payload.at.1) (λ flags. Some (ask_with service.at.0 payload.at.0 flags Neither)) ask payload.then in
    let first = service_read octets service.at service.is in
    let second = payload_read setup service.at.1 payload.at.0 payload.at.1 payload.is in
    let third = flags_read setup buffered payload.at.1 flags.at flags.is in record {
      service = service.at.0;
      sent = second.parts;
      words = third.words;
      payload = payload.at.0;
      flags = flags.at;
      is_service = first.0;
      is_data = second.is;
      are_flags = third.are;
      spaced = (service.at.1, first.1, spaced_join second.parts third.words payload.at.1 service.at.1 second.front third.spaced);
      ask_is = some_is (ask_with service.at.0 payload.at.0 flags.at Neither) ask flags.then;
    }

ask_again : (setup : Setup) (buffered : Bool) (service : List ℕ) (sent words : List (List ℕ)) (payload : Option Data) (flags : Flags) (octets : List ℕ) → IsService service → IsData setup sent payload
    → AreFlags setup buffered words flags → IsSpaced (service ∷ (sent ++ words)) octets → ask_of setup buffered octets ≡ Some (ask_with service payload flags Neither)
unfolding ask_of
ask_again setup buffered service sent words payload flags octets is_service is_data are_flags spaced =
    let s = spaced_split sent words spaced.0 spaced.2 in
    both (service_at octets) (λ service. payload_at setup service.1 >>= λ payload. flags_of setup buffered payload.1 >>= λ flags. Some (ask_with service.0 payload.0 flags Neither)) (cut_at service spaced.0) _
    (service_again service spaced.0 octets is_service spaced.1)
    (both (payload_at setup spaced.0) (λ payload. flags_of setup buffered payload.1 >>= λ flags. Some (ask_with service payload.0 flags Neither)) (sending payload s.0) _
    (payload_again setup sent payload s.0 spaced.0 is_data s.1 (flags_bare setup buffered words flags s.0 are_flags s.2))
    (both (flags_of setup buffered s.0) (λ flags. Some (ask_with service payload flags Neither)) flags _ (flags_again setup buffered words flags s.0 are_flags s.2) refl))

-- ---- the rest of a line

abbrev verb_word : Verb → List ℕ
verb_word verbs.Call = codes "call"
verb_word verbs.Acall = codes "acall"
verb_word verbs.Get = codes "get"
verb_word verbs.GetAny = codes "getany"
verb_word verbs.Cancel = codes "cancel"
verb_word verbs.Connect = codes "connect"
verb_word verbs.Send = codes "send"
verb_word verbs.Receive = codes "recv"
verb_word verbs.Disconnect = codes "discon"
verb_word verbs.Priority = codes "prio"
verb_word verbs.Advertise = codes "advertise"
verb_word verbs.Unadvertise = codes "unadvertise"
verb_word verbs.Tick = codes "tick"

record IsRest (setup : Setup) (verb : Verb) (octets : List ℕ) (op : Option Op) : Type 0 where
  pub parts : List (List ℕ)
  pub spaced : IsSpaced parts octets
  pub is : IsCall setup (verb_word verb ∷ parts) op

get_read : (setup : Setup) (octets : List ℕ) (op : Option Op) → get_of setup octets ≡ Some op → IsRest setup verbs.Get octets op
unfolding get_of
get_read setup octets op h =
    let cd = bound (descriptor_at octets) (λ descriptor. flags_of setup true descriptor.1 >>= λ flags. Some (option_map (ops.Get descriptor.0 flags.call) (kind_with flags.expect))) op h in
    let flags = bound (flags_of setup true cd.at.1) (λ flags. Some (option_map (ops.Get cd.at.0 flags.call) (kind_with flags.expect))) op cd.then in
    let first = descriptor_read octets cd.at cd.is in
    let second = flags_read setup true cd.at.1 flags.at flags.is in
    subst (IsRest setup verbs.Get octets) (some_is (option_map (ops.Get cd.at.0 flags.at.call) (kind_with flags.at.expect)) op flags.then)
    (record { parts = first.word ∷ second.words; spaced = (cd.at.1, first.front, second.spaced); is = get first.word second.words cd.at.0 flags.at first.is second.are })

getany_read : (setup : Setup) (octets : List ℕ) (op : Option Op) → get_any_of setup octets ≡ Some op → IsRest setup verbs.GetAny octets op
unfolding get_any_of
getany_read setup octets op h =
    let flags = bound (flags_of setup true octets) (λ flags. Some (option_map (ops.GetAny flags.call) (kind_with flags.expect))) op h in
    let first = flags_read setup true octets flags.at flags.is in
    subst (IsRest setup verbs.GetAny octets) (some_is (option_map (ops.GetAny flags.at.call) (kind_with flags.at.expect)) op flags.then)
    (record { parts = first.words; spaced = first.spaced; is = getany first.words flags.at first.are })

cancel_read : (setup : Setup) (octets : List ℕ) (op : Option Op) → cancel_of octets ≡ Some op → IsRest setup verbs.Cancel octets op
unfolding cancel_of
cancel_read setup octets op h =
    let cd = bound (descriptor_at octets) (λ descriptor. no_more (Some (ops.Cancel descriptor.0)) descriptor.1) op h in
    let first = descriptor_read octets cd.at cd.is in
    let end = no_more_read (Some (ops.Cancel cd.at.0)) op cd.at.1 cd.then in
    subst (IsRest setup verbs.Cancel octets) end.0 (record { parts = first.word ∷ []; spaced = (cd.at.1, first.front, end.1); is = cancel first.word cd.at.0 first.is })

discon_read : (setup : Setup) (octets : List ℕ) (op : Option Op) → disconnect_of octets ≡ Some op → IsRest setup verbs.Disconnect octets op
unfolding disconnect_of
discon_read setup octets op h =
    let cd = bound (descriptor_at octets) (λ descriptor. no_more (Some (ops.Disconnect descriptor.0)) descriptor.1) op h in
    let first = descriptor_read octets cd.at cd.is in
    let end = no_more_read (Some (ops.Disconnect cd.at.0)) op cd.at.1 cd.then in
    subst (IsRest setup verbs.Disconnect octets) end.0 (record { parts = first.word ∷ []; spaced = (cd.at.1, first.front, end.1); is = discon first.word cd.at.0 first.is })

recv_read : (setup : Setup) (octets : List ℕ) (op : Option Op) → receive_of setup octets ≡ Some op → IsRest setup verbs.Receive octets op
unfolding receive_of
recv_read setup octets op h =
    let cd = bound (descriptor_at octets) (λ descriptor. flags_of setup false descriptor.1 >>= λ flags. Some (Some (ops.Receive descriptor.0 flags.call))) op h in
    let flags = bound (flags_of setup false cd.at.1) (λ flags. Some (Some (ops.Receive cd.at.0 flags.call))) op cd.then in
    let first = descriptor_read octets cd.at cd.is in
    let second = flags_read setup false cd.at.1 flags.at flags.is in
    subst (IsRest setup verbs.Receive octets) (some_is (Some (ops.Receive cd.at.0 flags.at.call)) op flags.then)
    (record { parts = first.word ∷ second.words; spaced = (cd.at.1, first.front, second.spaced); is = recv first.word second.words cd.at.0 flags.at first.is second.are })

abbrev Joined : Type 0
Joined = Direction × Flags

abbrev joined : Direction → Flags → Joined
joined direction flags = (direction, flags)

record IsJoined (setup : Setup) (octets : List ℕ) (at : Joined) : Type 0 where
  pub words : List (List ℕ)
  pub are : AreFlags setup false words at.1
  pub spaced : IsSpaced (direction_word at.0 ∷ words) octets

joined_read : (setup : Setup) (octets : List ℕ) (at : Joined) → joined_of setup octets ≡ Some at → IsJoined setup octets at
unfolding joined_of
joined_read setup octets at h =
    let word = bound (word_at octets) (λ word. direction_of word.0 >>= λ direction. flags_of setup false word.1 >>= λ flags. Some (direction, flags)) at h in
    let direction = bound (direction_of word.at.0) (λ direction. flags_of setup false word.at.1 >>= λ flags. Some (direction, flags)) at word.then in
    let flags = bound (flags_of setup false word.at.1) (λ flags. Some (direction.at, flags)) at direction.then in
    let first = word_read octets word.at.0 word.at.1 word.is in
    let third = flags_read setup false word.at.1 flags.at flags.is in
    subst (IsJoined setup octets) (some_is (joined direction.at flags.at) at flags.then) (record {
      words = third.words;
      are = third.are;
      spaced = (word.at.1, subst (λ w. IsInFront w word.at.1 octets) (direction_read word.at.0 direction.at direction.is) first.1, third.spaced);
    })

joined_again : (setup : Setup) (direction : Direction) (words : List (List ℕ)) (flags : Flags) (octets : List ℕ) → AreFlags setup false words flags → IsSpaced (direction_word direction ∷ words) octets
    → joined_of setup octets ≡ Some (joined direction flags)
unfolding joined_of
joined_again setup direction words flags octets are spaced =
    both (word_at octets) (λ word. direction_of word.0 >>= λ direction. flags_of setup false word.1 >>= λ flags. Some (direction, flags)) (cut_at (direction_word direction) spaced.0) _
    (word_again octets (direction_word direction) spaced.0 (direction_is_word direction) spaced.1)
    (both (direction_of (direction_word direction)) (λ direction. flags_of setup false spaced.0 >>= λ flags. Some (direction, flags)) direction _ (direction_again direction)
    (both (flags_of setup false spaced.0) (λ flags. Some (direction, flags)) flags _ (flags_again setup false words flags spaced.0 are spaced.2) refl))

connect_read : (setup : Setup) (octets : List ℕ) (ask : Option Ask) → connect_of setup octets ≡ Some ask → IsRest setup verbs.Connect octets (option_map ops.Connect ask)
unfolding connect_of
connect_read setup octets ask h =
    let service = bound (service_at octets) (λ service. payload_at setup service.1 >>= λ payload. joined_of setup payload.1 >>= λ joined. Some (ask_with service.0 payload.0 joined.1 joined.0)) ask h in
    let payload = bound (payload_at setup service.at.1) (λ payload. joined_of setup payload.1 >>= λ joined. Some (ask_with service.at.0 payload.0 joined.1 joined.0)) ask service.then in
    let join = bound (joined_of setup payload.at.1) (λ joined. Some (ask_with service.at.0 payload.at.0 joined.1 joined.0)) ask payload.then in
    let first = service_read octets service.at service.is in
    let second = payload_read setup service.at.1 payload.at.0 payload.at.1 payload.is in
    let third = joined_read setup payload.at.1 join.at join.is in
    subst (λ ask. IsRest setup verbs.Connect octets (option_map ops.Connect ask)) (some_is (ask_with service.at.0 payload.at.0 join.at.1 join.at.0) ask join.then) (record {
      parts = service.at.0 ∷ (second.parts ++ direction_word join.at.0 ∷ third.words);
      spaced = (service.at.1, first.1, spaced_join second.parts (direction_word join.at.0 ∷ third.words) payload.at.1 service.at.1 second.front third.spaced);
      is = connect service.at.0 second.parts third.words payload.at.0 join.at.0 join.at.1 first.0 second.is third.are;
    })

connect_again : (setup : Setup) (service : List ℕ) (sent words : List (List ℕ)) (payload : Option Data) (direction : Direction) (flags : Flags) (octets : List ℕ) → IsService service
    → IsData setup sent payload → AreFlags setup false words flags → IsSpaced (service ∷ (sent ++ direction_word direction ∷ words)) octets
    → connect_of setup octets ≡ Some (ask_with service payload flags direction)
unfolding connect_of
connect_again setup service sent words payload direction flags octets is_service is_data are spaced =
    let s = spaced_split sent (direction_word direction ∷ words) spaced.0 spaced.2 in
    let last = s.2 in
    both (service_at octets) (λ service. payload_at setup service.1 >>= λ payload. joined_of setup payload.1 >>= λ joined. Some (ask_with service.0 payload.0 joined.1 joined.0)) (cut_at service spaced.0) _
    (service_again service spaced.0 octets is_service spaced.1)
    (both (payload_at setup spaced.0) (λ payload. joined_of setup payload.1 >>= λ joined. Some (ask_with service payload.0 joined.1 joined.0)) (sending payload s.0) _
    (payload_again setup sent payload s.0 spaced.0 is_data s.1 (no_field (direction_word direction) last.0 s.0 (direction_is_word direction) (direction_other direction) last.1))
    (both (joined_of setup s.0) (λ joined. Some (ask_with service payload joined.1 joined.0)) (joined direction flags) _ (joined_again setup direction words flags s.0 are last) refl))

abbrev Passes : Type 0
Passes = Bool × List ℕ

abbrev passes : Bool → List ℕ → Passes
passes b rest = (b, rest)

recv_word : IsWord (codes "recv")
recv_word = closed (codes "recv") refl refl

record IsPassing (setup : Setup) (octets : List ℕ) (at : Passes) (flags : Flags) : Type 0 where
  pub words : List (List ℕ)
  pub spaced : IsSpaced words octets
  pub is : (cd : List ℕ) (sent : List (List ℕ)) (descriptor : ℕ) (payload : Option Data) → descriptor_of cd ≡ Some descriptor → IsData setup sent payload
      → IsCall setup (codes "send" ∷ cd ∷ (sent ++ words)) (option_map (ops.Send descriptor flags.call at.0) payload)

passes_read : (setup : Setup) (octets : List ℕ) (flags : Flags) → flags_of setup false (passes_at octets).1 ≡ Some flags → IsPassing setup octets (passes_at octets) flags
passes_read setup octets flags h =
    elim (bytes_eq (next_word octets).0 (codes "recv")) as (λ b. bytes_eq (next_word octets).0 (codes "recv") ≡ b → flags_of setup false (cond b (passes true (next_word octets).1) (passes false octets)).1 ≡ Some flags
    → IsPassing setup octets (cond b (passes true (next_word octets).1) (passes false octets)) flags) [
      | true ↦ λ e k.
          let said = flags_read setup false (next_word octets).1 flags k in record {
            words = codes "recv" ∷ said.words;
            spaced = ((next_word octets).1, subst (λ w. IsInFront w (next_word octets).1 octets) (same_word (next_word octets).0 (codes "recv") e) (next_front octets), said.spaced);
            is = λ cd sent descriptor payload is is_data. send_recv cd sent said.words descriptor payload flags is is_data said.are;
          }
      | false ↦ λ e k.
          let said = flags_read setup false octets flags k in record {
            words = said.words;
            spaced = said.spaced;
            is = λ cd sent descriptor payload is is_data. send cd sent said.words descriptor payload flags is is_data said.are;
          }
    ] refl h

send_read : (setup : Setup) (octets : List ℕ) (op : Option Op) → send_of setup octets ≡ Some op → IsRest setup verbs.Send octets op
unfolding send_of
send_read setup octets op h =
    let cd = bound (descriptor_at octets) (λ descriptor. payload_at setup descriptor.1 >>= λ payload. flags_of setup false (passes_at payload.1).1 >>= λ flags. Some (option_map (ops.Send descriptor.0 flags.call (passes_at payload.1).0) payload.0)) op h in
    let payload = bound (payload_at setup cd.at.1) (λ payload. flags_of setup false (passes_at payload.1).1 >>= λ flags. Some (option_map (ops.Send cd.at.0 flags.call (passes_at payload.1).0) payload.0)) op cd.then in
    let flags = bound (flags_of setup false (passes_at payload.at.1).1) (λ flags. Some (option_map (ops.Send cd.at.0 flags.call (passes_at payload.at.1).0) payload.at.0)) op payload.then in
    let first = descriptor_read octets cd.at cd.is in
    let second = payload_read setup cd.at.1 payload.at.0 payload.at.1 payload.is in
    let third = passes_read setup payload.at.1 flags.at flags.is in
    subst (IsRest setup verbs.Send octets) (some_is (option_map (ops.Send cd.at.0 flags.at.call (passes_at payload.at.1).0) payload.at.0) op flags.then) (record {
      parts = first.word ∷ (second.parts ++ third.words);
      spaced = (cd.at.1, first.front, spaced_join second.parts third.words payload.at.1 cd.at.1 second.front third.spaced);
      is = third.is first.word second.parts cd.at.0 payload.at.0 first.is second.is;
    })

send_again : (setup : Setup) (cd : List ℕ) (sent words : List (List ℕ)) (descriptor : ℕ) (payload : Option Data) (flags : Flags) (at : Passes) (octets : List ℕ) → descriptor_of cd ≡ Some descriptor
    → IsData setup sent payload → ((rest : List ℕ) → IsSpaced words rest → (has_field rest ≡ false) × ((after : List ℕ) × (passes_at rest ≡ passes at.0 after) × (flags_of setup false after ≡ Some flags)))
    → IsSpaced (cd ∷ (sent ++ words)) octets → send_of setup octets ≡ Some (option_map (ops.Send descriptor flags.call at.0) payload)
unfolding send_of
send_again setup cd sent words descriptor payload flags at octets is is_data ends spaced =
    let s = spaced_split sent words spaced.0 spaced.2 in
    let end = ends s.0 s.2 in
    let after = end.1 in
    both (descriptor_at octets) (λ descriptor. payload_at setup descriptor.1 >>= λ payload. flags_of setup false (passes_at payload.1).1 >>= λ flags. Some (option_map (ops.Send descriptor.0 flags.call (passes_at payload.1).0) payload.0))
    (numbered descriptor spaced.0) _ (descriptor_again cd spaced.0 octets descriptor is spaced.1)
    (both (payload_at setup spaced.0) (λ payload. flags_of setup false (passes_at payload.1).1 >>= λ flags. Some (option_map (ops.Send descriptor flags.call (passes_at payload.1).0) payload.0)) (sending payload s.0) _
    (payload_again setup sent payload s.0 spaced.0 is_data s.1 end.0)
    (ap (λ (p : Passes). flags_of setup false p.1 >>= λ flags. Some (option_map (ops.Send descriptor flags.call p.0) payload)) after.1
    ∙ both (flags_of setup false after.0) (λ flags. Some (option_map (ops.Send descriptor flags.call at.0) payload)) flags _ after.2 refl))

not_recv : (octets : List ℕ) → Starts octets → bytes_eq (next_word octets).0 (codes "recv") ≡ false
not_recv octets (inl none) = ap (λ word. bytes_eq word (codes "recv")) none
not_recv octets (inr some) = by_among (λ word. bytes_eq word (codes "recv") ≡ false) (codes "nochange" ∷ flag_words) (next_word octets).0 (refl, (refl, (refl, (refl, (refl, (refl, tt)))))) some

prio_read : (setup : Setup) (octets : List ℕ) (op : Option Op) → priority_of octets ≡ Some op → IsRest setup verbs.Priority octets op
unfolding priority_of
prio_read setup octets op h =
    let word = bound (word_at octets) (λ word. is_absolute word.0 >>= λ absolute. word_at word.1 >>= λ number. signed_of number.0 >>= λ value. amount_of value >>= λ amount. no_more (Some (ops.Priority absolute amount)) number.1) op h in
    let absolute = bound (is_absolute word.at.0) (λ absolute. word_at word.at.1 >>= λ number. signed_of number.0 >>= λ value. amount_of value >>= λ amount. no_more (Some (ops.Priority absolute amount)) number.1) op word.then in
    let number = bound (word_at word.at.1) (λ number. signed_of number.0 >>= λ value. amount_of value >>= λ amount. no_more (Some (ops.Priority absolute.at amount)) number.1) op absolute.then in
    let value = bound (signed_of number.at.0) (λ value. amount_of value >>= λ amount. no_more (Some (ops.Priority absolute.at amount)) number.at.1) op number.then in
    let amount = bound (amount_of value.at) (λ amount. no_more (Some (ops.Priority absolute.at amount)) number.at.1) op value.then in
    let end = no_more_read (Some (ops.Priority absolute.at amount.at)) op number.at.1 amount.then in
    let first = word_read octets word.at.0 word.at.1 word.is in
    let second = word_read word.at.1 number.at.0 number.at.1 number.is in
    let is = amount_read value.at amount.at amount.is in
    subst (IsRest setup verbs.Priority octets) end.0 (record {
      parts = absolute_word absolute.at ∷ number.at.0 ∷ [];
      spaced = (word.at.1, subst (λ w. IsInFront w word.at.1 octets) (absolute_read word.at.0 absolute.at absolute.is) first.1, (number.at.1, second.1, end.1));
      is = prio absolute.at number.at.0 amount.at (value.is ∙ ap (λ v. Some v) is.0) is.1;
    })

advertise_read : (setup : Setup) (octets : List ℕ) (op : Option Op) → advertise_of octets ≡ Some op → IsRest setup verbs.Advertise octets op
unfolding advertise_of
advertise_read setup octets op h =
    let service = bound (service_at octets) (λ service. service_at service.1 >>= λ routine. no_more (Some (ops.Advertise service.0 routine.0)) routine.1) op h in
    let routine = bound (service_at service.at.1) (λ routine. no_more (Some (ops.Advertise service.at.0 routine.0)) routine.1) op service.then in
    let end = no_more_read (Some (ops.Advertise service.at.0 routine.at.0)) op routine.at.1 routine.then in
    let first = service_read octets service.at service.is in
    let second = service_read service.at.1 routine.at routine.is in
    subst (IsRest setup verbs.Advertise octets) end.0
    (record { parts = service.at.0 ∷ routine.at.0 ∷ []; spaced = (service.at.1, first.1, (routine.at.1, second.1, end.1)); is = advertise service.at.0 routine.at.0 first.0 second.0 })

unadvertise_read : (setup : Setup) (octets : List ℕ) (op : Option Op) → unadvertise_of octets ≡ Some op → IsRest setup verbs.Unadvertise octets op
unfolding unadvertise_of
unadvertise_read setup octets op h =
    let service = bound (service_at octets) (λ service. no_more (Some (ops.Unadvertise service.0)) service.1) op h in
    let end = no_more_read (Some (ops.Unadvertise service.at.0)) op service.at.1 service.then in
    let first = service_read octets service.at service.is in
    subst (IsRest setup verbs.Unadvertise octets) end.0 (record { parts = service.at.0 ∷ []; spaced = (service.at.1, first.1, end.1); is = unadvertise service.at.0 first.0 })

tick_read : (setup : Setup) (octets : List ℕ) (op : Option Op) → tick_of octets ≡ Some op → IsRest setup verbs.Tick octets op
unfolding tick_of
tick_read setup octets op h =
    let word = bound (word_at octets) (λ word. number_of 1 2147483647 word.0 >>= λ number. no_more (Some (ops.Tick number)) word.1) op h in
    let number = bound (number_of 1 2147483647 word.at.0) (λ number. no_more (Some (ops.Tick number)) word.at.1) op word.then in
    let end = no_more_read (Some (ops.Tick number.at)) op word.at.1 number.then in
    let first = word_read octets word.at.0 word.at.1 word.is in
    subst (IsRest setup verbs.Tick octets) end.0 (record { parts = word.at.0 ∷ []; spaced = (word.at.1, first.1, end.1); is = tick word.at.0 number.at number.is })

op_read : (setup : Setup) (verb : Verb) (octets : List ℕ) (op : Option Op) → op_of setup verb octets ≡ Some op → IsRest setup verb octets op
op_read setup verbs.Call octets op h =
    let ask = bound (ask_of setup true octets) (λ ask. Some (option_map ops.Call ask)) op h in
    let a = ask_read setup true octets ask.at ask.is in
    subst (IsRest setup verbs.Call octets) (ap (option_map ops.Call) a.ask_is ∙ some_is (option_map ops.Call ask.at) op ask.then)
    (record { parts = a.service ∷ (a.sent ++ a.words); spaced = a.spaced; is = call a.service a.sent a.words a.payload a.flags a.is_service a.is_data a.are_flags })
op_read setup verbs.Acall octets op h =
    let ask = bound (ask_of setup false octets) (λ ask. Some (option_map ops.Acall ask)) op h in
    let a = ask_read setup false octets ask.at ask.is in
    subst (IsRest setup verbs.Acall octets) (ap (option_map ops.Acall) a.ask_is ∙ some_is (option_map ops.Acall ask.at) op ask.then)
    (record { parts = a.service ∷ (a.sent ++ a.words); spaced = a.spaced; is = acall a.service a.sent a.words a.payload a.flags a.is_service a.is_data a.are_flags })
op_read setup verbs.Get octets op h = get_read setup octets op h
op_read setup verbs.GetAny octets op h = getany_read setup octets op h
op_read setup verbs.Cancel octets op h = cancel_read setup octets op h
op_read setup verbs.Connect octets op h =
    let ask = bound (connect_of setup octets) (λ ask. Some (option_map ops.Connect ask)) op h in
    subst (IsRest setup verbs.Connect octets) (some_is (option_map ops.Connect ask.at) op ask.then) (connect_read setup octets ask.at ask.is)
op_read setup verbs.Send octets op h = send_read setup octets op h
op_read setup verbs.Receive octets op h = recv_read setup octets op h
op_read setup verbs.Disconnect octets op h = discon_read setup octets op h
op_read setup verbs.Priority octets op h = prio_read setup octets op h
op_read setup verbs.Advertise octets op h = advertise_read setup octets op h
op_read setup verbs.Unadvertise octets op h = unadvertise_read setup octets op h
op_read setup verbs.Tick octets op h = tick_read setup octets op h

-- ---- call lines

-- a call that is read behind the first word
abbrev pub IsCallRead : Setup → List ℕ → Option Op → Type 0
IsCallRead setup line op = (verb : Verb) × (verb_of (next_word line).0 ≡ Some verb) × (op_of setup verb (next_word line).1 ≡ Some op)

abbrev Named : List ℕ → Type 0
Named word = (verb : Verb) → verb_of word ≡ Some verb → word ≡ verb_word verb

verb_named : (word : List ℕ) → is_among call_words word ≡ true → Named word
verb_named word among = by_among Named call_words word (
  λ verb e. ap verb_word (some_is verbs.Call verb e),
  (
    λ verb e. ap verb_word (some_is verbs.Acall verb e),
    (
      λ verb e. ap verb_word (some_is verbs.Get verb e),
      (
        λ verb e. ap verb_word (some_is verbs.GetAny verb e),
        (
          λ verb e. ap verb_word (some_is verbs.Cancel verb e),
          (
            λ verb e. ap verb_word (some_is verbs.Connect verb e),
            (
              λ verb e. ap verb_word (some_is verbs.Send verb e),
              (
                λ verb e. ap verb_word (some_is verbs.Receive verb e),
                (
                  λ verb e. ap verb_word (some_is verbs.Disconnect verb e),
                  (
                    λ verb e. ap verb_word (some_is verbs.Priority verb e),
                    (
                      λ verb e. ap verb_word (some_is verbs.Advertise verb e),
                      (
                        λ verb e. ap verb_word (some_is verbs.Unadvertise verb e),
                        (λ verb e. ap verb_word (some_is verbs.Tick verb e), tt),
                      ),
                    ),
                  ),
                ),
              ),
            ),
          ),
        ),
      ),
    ),
  ),
) among

pub call_read : (setup : Setup) (line : List ℕ) (op : Option Op) → is_among call_words (next_word line).0 ≡ true → IsCallRead setup line op → IsCallLine setup line op
call_read setup line op among h =
    let rest = op_read setup h.0 (next_word line).1 op h.2 in
    (verb_word h.0 ∷ rest.parts, ((next_word line).1, subst (λ w. IsInFront w (next_word line).1 line) (verb_named (next_word line).0 among h.0 h.1) (next_front line), rest.spaced), rest.is)

verbed : (setup : Setup) (word rest line : List ℕ) (verb : Verb) (op : Option Op) → IsWord word → IsInFront word rest line → verb_of word ≡ Some verb → op_of setup verb rest ≡ Some op → IsCallRead setup line op
verbed setup word rest line verb op is front e h =
    let same = next_is word rest line is front in
    (verb, ap (λ (c : Cut). verb_of c.0) same ∙ e, ap (λ (c : Cut). op_of setup verb c.1) same ∙ h)

get_again : (setup : Setup) (cd : List ℕ) (words : List (List ℕ)) (descriptor : ℕ) (flags : Flags) (octets : List ℕ) → descriptor_of cd ≡ Some descriptor → AreFlags setup true words flags
    → IsSpaced (cd ∷ words) octets → get_of setup octets ≡ Some (option_map (ops.Get descriptor flags.call) (kind_with flags.expect))
unfolding get_of
get_again setup cd words descriptor flags octets is are spaced =
    both (descriptor_at octets) (λ descriptor. flags_of setup true descriptor.1 >>= λ flags. Some (option_map (ops.Get descriptor.0 flags.call) (kind_with flags.expect))) (numbered descriptor spaced.0) _
    (descriptor_again cd spaced.0 octets descriptor is spaced.1)
    (both (flags_of setup true spaced.0) (λ flags. Some (option_map (ops.Get descriptor flags.call) (kind_with flags.expect))) flags _ (flags_again setup true words flags spaced.0 are spaced.2) refl)

getany_again : (setup : Setup) (words : List (List ℕ)) (flags : Flags) (octets : List ℕ) → AreFlags setup true words flags → IsSpaced words octets
    → get_any_of setup octets ≡ Some (option_map (ops.GetAny flags.call) (kind_with flags.expect))
unfolding get_any_of
getany_again setup words flags octets are spaced =
    both (flags_of setup true octets) (λ flags. Some (option_map (ops.GetAny flags.call) (kind_with flags.expect))) flags _ (flags_again setup true words flags octets are spaced) refl

cancel_again : (cd : List ℕ) (descriptor : ℕ) (octets : List ℕ) → descriptor_of cd ≡ Some descriptor → IsSpaced (cd ∷ []) octets → cancel_of octets ≡ Some (Some (ops.Cancel descriptor))
unfolding cancel_of
cancel_again cd descriptor octets is spaced =
    both (descriptor_at octets) (λ descriptor. no_more (Some (ops.Cancel descriptor.0)) descriptor.1) (numbered descriptor spaced.0) _ (descriptor_again cd spaced.0 octets descriptor is spaced.1)
    (no_more_again (Some (ops.Cancel descriptor)) spaced.0 spaced.2)

discon_again : (cd : List ℕ) (descriptor : ℕ) (octets : List ℕ) → descriptor_of cd ≡ Some descriptor → IsSpaced (cd ∷ []) octets → disconnect_of octets ≡ Some (Some (ops.Disconnect descriptor))
unfolding disconnect_of
discon_again cd descriptor octets is spaced =
    both (descriptor_at octets) (λ descriptor. no_more (Some (ops.Disconnect descriptor.0)) descriptor.1) (numbered descriptor spaced.0) _ (descriptor_again cd spaced.0 octets descriptor is spaced.1)
    (no_more_again (Some (ops.Disconnect descriptor)) spaced.0 spaced.2)

recv_again : (setup : Setup) (cd : List ℕ) (words : List (List ℕ)) (descriptor : ℕ) (flags : Flags) (octets : List ℕ) → descriptor_of cd ≡ Some descriptor → AreFlags setup false words flags
    → IsSpaced (cd ∷ words) octets → receive_of setup octets ≡ Some (Some (ops.Receive descriptor flags.call))
unfolding receive_of
recv_again setup cd words descriptor flags octets is are spaced =
    both (descriptor_at octets) (λ descriptor. flags_of setup false descriptor.1 >>= λ flags. Some (Some (ops.Receive descriptor.0 flags.call))) (numbered descriptor spaced.0) _
    (descriptor_again cd spaced.0 octets descriptor is spaced.1)
    (both (flags_of setup false spaced.0) (λ flags. Some (Some (ops.Receive descriptor flags.call))) flags _ (flags_again setup false words flags spaced.0 are spaced.2) refl)

prio_again : (absolute : Bool) (number : List ℕ) (amount : ℤ) (octets : List ℕ) → signed_of number ≡ Some (Some amount) → is_amount amount ≡ true → IsSpaced (absolute_word absolute ∷ number ∷ []) octets
    → priority_of octets ≡ Some (Some (ops.Priority absolute amount))
unfolding priority_of
prio_again absolute number amount octets h within spaced =
    let last = spaced.2 in
    both (word_at octets) (λ word. is_absolute word.0 >>= λ absolute. word_at word.1 >>= λ number. signed_of number.0 >>= λ value. amount_of value >>= λ amount. no_more (Some (ops.Priority absolute amount)) number.1)
    (cut_at (absolute_word absolute) spaced.0) _ (word_again octets (absolute_word absolute) spaced.0 (absolute_is_word absolute) spaced.1)
    (both (is_absolute (absolute_word absolute)) (λ absolute. word_at spaced.0 >>= λ number. signed_of number.0 >>= λ value. amount_of value >>= λ amount. no_more (Some (ops.Priority absolute amount)) number.1) absolute _
    (absolute_again absolute)
    (both (word_at spaced.0) (λ number. signed_of number.0 >>= λ value. amount_of value >>= λ amount. no_more (Some (ops.Priority absolute amount)) number.1) (cut_at number last.0) _
    (word_again spaced.0 number last.0 (signed_word number (Some amount) h).is_word last.1)
    (both (signed_of number) (λ value. amount_of value >>= λ amount. no_more (Some (ops.Priority absolute amount)) last.0) (Some amount) _ h
    (both (amount_of (Some amount)) (λ amount. no_more (Some (ops.Priority absolute amount)) last.0) amount _ (amount_again amount within) (no_more_again (Some (ops.Priority absolute amount)) last.0 last.2)))))

advertise_again : (service routine octets : List ℕ) → IsService service → IsService routine → IsSpaced (service ∷ routine ∷ []) octets → advertise_of octets ≡ Some (Some (ops.Advertise service routine))
unfolding advertise_of
advertise_again service routine octets a b spaced =
    let last = spaced.2 in
    both (service_at octets) (λ service. service_at service.1 >>= λ routine. no_more (Some (ops.Advertise service.0 routine.0)) routine.1) (cut_at service spaced.0) _ (service_again service spaced.0 octets a spaced.1)
    (both (service_at spaced.0) (λ routine. no_more (Some (ops.Advertise service routine.0)) routine.1) (cut_at routine last.0) _ (service_again routine last.0 spaced.0 b last.1)
    (no_more_again (Some (ops.Advertise service routine)) last.0 last.2))

unadvertise_again : (service octets : List ℕ) → IsService service → IsSpaced (service ∷ []) octets → unadvertise_of octets ≡ Some (Some (ops.Unadvertise service))
unfolding unadvertise_of
unadvertise_again service octets a spaced =
    both (service_at octets) (λ service. no_more (Some (ops.Unadvertise service.0)) service.1) (cut_at service spaced.0) _ (service_again service spaced.0 octets a spaced.1)
    (no_more_again (Some (ops.Unadvertise service)) spaced.0 spaced.2)

tick_again : (word : List ℕ) (number : ℕ) (octets : List ℕ) → number_of 1 2147483647 word ≡ Some number → IsSpaced (word ∷ []) octets → tick_of octets ≡ Some (Some (ops.Tick number))
unfolding tick_of
tick_again word number octets h spaced =
    both (word_at octets) (λ word. number_of 1 2147483647 word.0 >>= λ number. no_more (Some (ops.Tick number)) word.1) (cut_at word spaced.0) _
    (word_again octets word spaced.0 (number_word 1 2147483647 word number h) spaced.1)
    (both (number_of 1 2147483647 word) (λ number. no_more (Some (ops.Tick number)) spaced.0) number _ h (no_more_again (Some (ops.Tick number)) spaced.0 spaced.2))

op_again : (setup : Setup) (parts : List (List ℕ)) (op : Option Op) (line : List ℕ) → IsCall setup parts op → IsSpaced parts line → IsCallRead setup line op
op_again setup parts op line (call service sent words payload flags a b c) spaced =
    verbed setup (codes "call") spaced.0 line verbs.Call _ (closed (codes "call") refl refl) spaced.1 refl
    (both (ask_of setup true spaced.0) (λ ask. Some (option_map ops.Call ask)) (ask_with service payload flags Neither) _ (ask_again setup true service sent words payload flags spaced.0 a b c spaced.2) refl)
op_again setup parts op line (acall service sent words payload flags a b c) spaced =
    verbed setup (codes "acall") spaced.0 line verbs.Acall _ (closed (codes "acall") refl refl) spaced.1 refl
    (both (ask_of setup false spaced.0) (λ ask. Some (option_map ops.Acall ask)) (ask_with service payload flags Neither) _ (ask_again setup false service sent words payload flags spaced.0 a b c spaced.2) refl)
op_again setup parts op line (get cd words descriptor flags a b) spaced =
    verbed setup (codes "get") spaced.0 line verbs.Get _ (closed (codes "get") refl refl) spaced.1 refl (get_again setup cd words descriptor flags spaced.0 a b spaced.2)
op_again setup parts op line (getany words flags a) spaced =
    verbed setup (codes "getany") spaced.0 line verbs.GetAny _ (closed (codes "getany") refl refl) spaced.1 refl (getany_again setup words flags spaced.0 a spaced.2)
op_again setup parts op line (cancel cd descriptor a) spaced =
    verbed setup (codes "cancel") spaced.0 line verbs.Cancel _ (closed (codes "cancel") refl refl) spaced.1 refl (cancel_again cd descriptor spaced.0 a spaced.2)
op_again setup parts op line (connect service sent words payload direction flags a b c) spaced =
    verbed setup (codes "connect") spaced.0 line verbs.Connect _ (closed (codes "connect") refl refl) spaced.1 refl
    (both (connect_of setup spaced.0) (λ ask. Some (option_map ops.Connect ask)) (ask_with service payload flags direction) _ (connect_again setup service sent words payload direction flags spaced.0 a b c spaced.2) refl)
op_again setup parts op line (send cd sent words descriptor payload flags a b c) spaced =
    verbed setup (codes "send") spaced.0 line verbs.Send _ (closed (codes "send") refl refl) spaced.1 refl
    (send_again setup cd sent words descriptor payload flags (passes false []) spaced.0 a b
    (λ rest s. (
      flags_bare setup false words flags rest c s,
      (rest, ap (λ b. cond b (passes true (next_word rest).1) (passes false rest)) (not_recv rest (flags_start setup false words flags rest c s)), flags_again setup false words flags rest c s),
    )) spaced.2)
op_again setup parts op line (send_recv cd sent words descriptor payload flags a b c) spaced =
    verbed setup (codes "send") spaced.0 line verbs.Send _ (closed (codes "send") refl refl) spaced.1 refl
    (send_again setup cd sent (codes "recv" ∷ words) descriptor payload flags (passes true []) spaced.0 a b
    (λ rest s. (
      no_field (codes "recv") s.0 rest recv_word refl s.1,
      (
        s.0,
        ap (λ (c : Cut). cond (bytes_eq c.0 (codes "recv")) (passes true c.1) (passes false rest)) (next_is (codes "recv") s.0 rest recv_word s.1),
        flags_again setup false words flags s.0 c s.2,
      ),
    )) spaced.2)
op_again setup parts op line (recv cd words descriptor flags a b) spaced =
    verbed setup (codes "recv") spaced.0 line verbs.Receive _ recv_word spaced.1 refl (recv_again setup cd words descriptor flags spaced.0 a b spaced.2)
op_again setup parts op line (discon cd descriptor a) spaced =
    verbed setup (codes "discon") spaced.0 line verbs.Disconnect _ (closed (codes "discon") refl refl) spaced.1 refl (discon_again cd descriptor spaced.0 a spaced.2)
op_again setup parts op line (prio absolute number amount a b) spaced =
    verbed setup (codes "prio") spaced.0 line verbs.Priority _ (closed (codes "prio") refl refl) spaced.1 refl (prio_again absolute number amount spaced.0 a b spaced.2)
op_again setup parts op line (advertise service routine a b) spaced =
    verbed setup (codes "advertise") spaced.0 line verbs.Advertise _ (closed (codes "advertise") refl refl) spaced.1 refl (advertise_again service routine spaced.0 a b spaced.2)
op_again setup parts op line (unadvertise service a) spaced =
    verbed setup (codes "unadvertise") spaced.0 line verbs.Unadvertise _ (closed (codes "unadvertise") refl refl) spaced.1 refl (unadvertise_again service spaced.0 a spaced.2)
op_again setup parts op line (tick word number a) spaced =
    verbed setup (codes "tick") spaced.0 line verbs.Tick _ (closed (codes "tick") refl refl) spaced.1 refl (tick_again word number spaced.0 a spaced.2)

pub call_again : (setup : Setup) (line : List ℕ) (op : Option Op) → IsCallLine setup line op → IsCallRead setup line op
call_again setup line op h = op_again setup h.0 op line h.2 h.1
