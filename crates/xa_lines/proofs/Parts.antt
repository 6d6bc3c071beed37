-- Fields: what is read is spelled so, and what is spelled so is read.
use Rattle.std.proofs.Common.{◌≡◌, ℕ, zero, suc, ◌^◌, ◌<◌, Bool, true, false, cond, eqb, ◌&&◌, List, [], ◌∷◌, ◌++◌, length, map, Option, Some, None, refl, sym, ap, subst, ◌∙◌, append_assoc, arith, decimal, codes}
use Rattle.std.specs.Prelude.{FitsSigned}
use Rattle.std.specs.Fmt.{signed_decimal}
use Rattle.std.specs.Int.{w32}
use Rattle.std.specs.List.{All, list_all}
use Rattle.std.proofs.lemmas.Bool.{eqb-true, and_parts, and_from}
use Rattle.std.proofs.lemmas.Option.{same_Some}
use Rattle.std.proofs.lemmas.List.{append-nil}
use Rattle.std.proofs.lemmas.List.Elements.{All-nil, All-cons, All-head, All-tail}
use Rattle.hex.specs.Hex.{IsBytes}
use Rattle.xa_types.specs.Name.{IsName}
use Rattle.xa_types.specs.Fault.{fault_text, event_text}
use Rattle.xa_types.specs.declared.ids.RequestId.{RequestId}
use Rattle.xa_types.specs.declared.data.Data.{Data}
use Rattle.xa_types.specs.declared.data.Data.TheVariants.{Absent, Octet, Struct}
use Rattle.xa_types.specs.declared.call.Mode.{Mode}
use Rattle.xa_types.specs.declared.call.Mode.TheVariants as modes
use Rattle.xa_types.specs.declared.fault.Fault.{Fault}
use Rattle.xa_types.specs.declared.fault.Fault.TheVariants as faults
use Rattle.xa_types.specs.declared.fault.ConvEvent.{ConvEvent}
use Rattle.xa_types.specs.declared.fault.ConvEvent.TheVariants as ends
use Rattle.xa_types.specs.declared.reply.Answer.{Answer}
use Rattle.xa_types.specs.declared.reply.Answer.TheVariants as answers
use Rattle.xa_events.specs.declared.event.Outcome.{Outcome}
use Rattle.xa_events.specs.declared.event.Outcome.TheVariants as outcomes
use Rattle.xa_events.specs.declared.event.StopCause.{StopCause}
use Rattle.xa_events.specs.declared.event.StopCause.TheVariants as causes
use Rattle.xa_events.specs.declared.event.Item.{Item}
use Rattle.xa_events.specs.declared.event.Item.TheVariants as items
use Rattle.xa_events.specs.declared.event.Evidence.{Evidence}
use Rattle.xa_events.specs.declared.event.Evidence.TheVariants as evidences
use Rattle.xa_lines.specs.Line.{request_word, truth_word, mode_word, hex_word, data_words, requests_words, coded_words, outcome_words, cause_words, answer_words, item_words, evidence_words, IsRequest, AreRequests, IsData, IsCoded, IsOutcome, IsCause, IsAnswer, IsItem, IsEvidence, IsCall, IsLife}
use Rattle.xa_lines.specs.Reading.{◌>>=◌, said, by_word, number_at, signed_at, name_of, name_at, request_at, all_truths, truth_of, truth_at, all_modes, mode_of, mode_at, all_faults, fault_of, fault_at, all_ends, end_of, end_at, hex_at, subtype_of, struct_form, data_form, data_at, coded_at, requests_from, requests_at, returned, failed, outcome_form, outcome_at, out_of_turn, cause_form, cause_at, succeeded, refused, answer_form, answer_at, message, ending, item_form, item_at, full, late, over, evidence_form, evidence_at, call_at, life_at}
use Rattle.xa_lines.proofs.Cutting.{is_word}
use Rattle.xa_lines.proofs.Combining.{Words, bind_some, IsField, one_is, both_is, nothing_is, said_takes, said_again, Spells, chosen, by_word_is, pick_takes}
use Rattle.xa_lines.proofs.Leaves.{number_is, signed_is, name_is, request_is}
use Rattle.xa_lines.proofs.Hexes.{hex_is}

-- ---- numbers, and words with a few values

pub number_8 : IsField (number_at 255) (λ n. decimal n ∷ []) (λ n. n < 2 ^ 8)
number_8 = one_is (number_is 255 (2 ^ 8) refl (omega arith))

pub number_16 : IsField (number_at 65535) (λ n. decimal n ∷ []) (λ n. n < 2 ^ 16)
number_16 = one_is (number_is 65535 (2 ^ 16) refl (omega arith))

pub number_32 : IsField (number_at 4294967295) (λ n. decimal n ∷ []) (λ n. n < 2 ^ 32)
number_32 = one_is (number_is 4294967295 (2 ^ 32) refl (omega arith))

pub number_64 : IsField (number_at 18446744073709551615) (λ n. decimal n ∷ []) (λ n. n < 2 ^ 64)
number_64 = one_is (number_is 18446744073709551615 (2 ^ 64) refl (omega arith))

pub signed_are : IsField signed_at (λ z. signed_decimal z ∷ []) (FitsSigned w32)
signed_are = one_is signed_is

pub names_are : IsField name_at (λ name. name ∷ []) IsName
names_are = one_is name_is

pub request_are : IsField request_at (λ request. request_word request ∷ []) IsRequest
request_are = one_is request_is

hexes_are : IsField hex_at (λ octets. hex_word octets ∷ []) IsBytes
hexes_are = one_is hex_is

pub truths_are : IsField truth_at (λ truth. truth_word truth ∷ []) (λ _. Unit {0})
truths_are = one_is (record { takes = λ word v e. (pick_takes truth_word all_truths word v e, tt); again = again; inner = inner }) where
  again : (v : Bool) → Unit {0} → truth_of (truth_word v) ≡ Some v
  again true h = refl
  again false h = refl

  inner : (v : Bool) → Unit {0} → is_word (truth_word v) ≡ true
  inner true h = refl
  inner false h = refl

pub modes_are : IsField mode_at (λ mode. mode_word mode ∷ []) (λ _. Unit {0})
modes_are = one_is (record { takes = λ word v e. (pick_takes mode_word all_modes word v e, tt); again = again; inner = inner }) where
  again : (v : Mode) → Unit {0} → mode_of (mode_word v) ≡ Some v
  again modes.Reply h = refl
  again modes.NoReply h = refl
  again modes.ConvReceives h = refl
  again modes.ConvSends h = refl

  inner : (v : Mode) → Unit {0} → is_word (mode_word v) ≡ true
  inner modes.Reply h = refl
  inner modes.NoReply h = refl
  inner modes.ConvReceives h = refl
  inner modes.ConvSends h = refl

pub faults_are : IsField fault_at (λ fault. fault_text fault ∷ []) (λ _. Unit {0})
faults_are = one_is (record { takes = λ word v e. (pick_takes fault_text all_faults word v e, tt); again = λ v h. (both_ways v).0; inner = λ v h. (both_ways v).1 }) where
  both_ways : (v : Fault) → (fault_of (fault_text v) ≡ Some v) × (is_word (fault_text v) ≡ true)
  both_ways faults.Inval = (refl, refl)
  both_ways faults.NoEnt = (refl, refl)
  both_ways faults.IType = (refl, refl)
  both_ways faults.OType = (refl, refl)
  both_ways faults.BadDesc = (refl, refl)
  both_ways faults.Limit = (refl, refl)
  both_ways faults.Block = (refl, refl)
  both_ways faults.Time = (refl, refl)
  both_ways faults.Proto = (refl, refl)
  both_ways faults.System = (refl, refl)
  both_ways faults.Match = (refl, refl)
  both_ways faults.SvcFail = (refl, refl)
  both_ways faults.SvcErr = (refl, refl)
  both_ways faults.Event = (refl, refl)
  both_ways faults.NoMemory = (refl, refl)

pub ends_are : IsField end_at (λ event. event_text event ∷ []) (λ _. Unit {0})
ends_are = one_is (record { takes = λ word v e. (pick_takes event_text all_ends word v e, tt); again = λ v h. (both_ways v).0; inner = λ v h. (both_ways v).1 }) where
  both_ways : (v : ConvEvent) → (end_of (event_text v) ≡ Some v) × (is_word (event_text v) ≡ true)
  both_ways ends.DisconImm = (refl, refl)
  both_ways ends.SendOnly = (refl, refl)
  both_ways ends.SvcErr = (refl, refl)
  both_ways ends.SvcFail = (refl, refl)
  both_ways ends.SvcSucc = (refl, refl)
  both_ways ends.NoMemory = (refl, refl)

-- ---- data

subtype_takes : (word name : List ℕ) → subtype_of word ≡ Some name → (word ≡ codes "c:" ++ name) × IsName name
subtype_takes [] name e = absurd cc
subtype_takes (a ∷ []) name e = absurd cc
subtype_takes (a ∷ b ∷ rest) name e = by (eqb a 99 && eqb b 58) refl e where
  by : (t : Bool) → (eqb a 99 && eqb b 58) ≡ t → cond t (name_of rest) None ≡ Some name → (a ∷ b ∷ rest ≡ codes "c:" ++ name) × IsName name
  by false t h = absurd cc
  by true t h =
      let parts = and_parts (eqb a 99) (eqb b 58) t in
      let named = name_is.takes rest name h in
      (ap (λ x. x ∷ b ∷ rest) (eqb-true a 99 parts.0) ∙ ap (λ y. 99 ∷ y ∷ rest) (eqb-true b 58 parts.1) ∙ ap (λ (xs : List ℕ). 99 ∷ 58 ∷ xs) named.0, named.1)

struct_takes : (word : List ℕ) (words : Words) (x : Data × Words) → struct_form word words ≡ Some x → Spells data_words IsData word words x
struct_takes word words x e =
    let name = bind_some (subtype_of word) (λ subtype. said (Struct subtype) hex_at words) x e in
    let spelled = subtype_takes word name.0 name.1 in
    let v = said_takes hexes_are (Struct name.0) words x name.2 in
    subst (λ (d : Data). (word ∷ words ≡ data_words d ++ x.1) × IsData d) v.3
    (ap (λ (w : List ℕ). w ∷ words) spelled.0 ∙ ap (λ (ws : Words). (codes "c:" ++ name.0) ∷ ws) v.1, (spelled.1, v.2))

pub data_is : IsField data_at data_words IsData
unfolding data_at
data_is = by_word_is data_form data_words IsData taken again inner where
  taken : (word : List ℕ) (words : Words) (x : Data × Words) → data_form word words ≡ Some x → Spells data_words IsData word words x
  taken word words x =
      chosen nothing_is (λ _. Absent) data_words IsData (codes "none") (λ v. refl) (λ v p. tt) word words x _
      (chosen hexes_are Octet data_words IsData (codes "octet") (λ v. refl) (λ v p. p) word words x _ (struct_takes word words x))

  again : (d : Data) (rest : Words) → IsData d → by_word data_form (data_words d ++ rest) ≡ Some (d, rest)
  again Absent rest h = refl
  again (Octet octets) rest h = said_again hexes_are Octet octets rest h
  again (Struct subtype octets) rest h =
      ap (λ (r : Option (List ℕ)). r >>= λ name. said (Struct name) hex_at (hex_word octets ∷ rest)) (name_is.again subtype h.0)
      ∙ said_again hexes_are (Struct subtype) octets rest h.1

  inner : (d : Data) → IsData d → list_all is_word (data_words d) ≡ true
  inner Absent h = refl
  inner (Octet octets) h = hexes_are.inner octets h
  inner (Struct subtype octets) h = and_from (is_word (codes "c:" ++ subtype)) _ (name_is.inner subtype h.0) (hexes_are.inner octets h.1)

pub coded_is : IsField coded_at (λ v. coded_words v.0 v.1) (λ v. IsCoded v.0 v.1)
coded_is = both_is signed_are data_is

-- ---- requests

-- so many requests were read
record AreRead (front : List RequestId) (n : ℕ) (words : Words) (x : List RequestId × Words) : Type 0 where
  requests : List RequestId
  all : x.0 ≡ front ++ requests
  many : n ≡ length requests
  spelled : words ≡ map request_word requests ++ x.1
  fit : All IsRequest requests

requests_take : (front : List RequestId) (n : ℕ) (words : Words) (x : List RequestId × Words) → requests_from front n words ≡ Some x → AreRead front n words x
requests_take front zero words x e =
    let same = same_Some (front, words) x e in
    record {
      requests = [];
      all = ap (λ (y : List RequestId × Words). y.0) (sym same) ∙ sym (append-nil front);
      many = refl;
      spelled = ap (λ (y : List RequestId × Words). y.1) same;
      fit = All-nil IsRequest;
    }
requests_take front (suc n) words x e =
    let r = bind_some (request_at words) (λ request. requests_from (front ++ request.0 ∷ []) n request.1) x e in
    let first = request_are.takes words r.0 r.1 in
    let more = requests_take (front ++ r.0.0 ∷ []) n r.0.1 x r.2 in
    record {
      requests = r.0.0 ∷ more.requests;
      all = more.all ∙ append_assoc front (r.0.0 ∷ []) more.requests;
      many = ap suc more.many;
      spelled = first.0 ∙ ap (λ (ws : Words). request_word r.0.0 ∷ ws) more.spelled;
      fit = All-cons IsRequest r.0.0 more.requests first.1 more.fit;
    }

requests_again : (front requests : List RequestId) (rest : Words) → All IsRequest requests → requests_from front (length requests) (map request_word requests ++ rest) ≡ Some (front ++ requests, rest)
requests_again front [] rest h = ap (λ (rs : List RequestId). Some (rs, rest)) (sym (append-nil front))
requests_again front (request ∷ requests) rest h =
    ap (λ (r : Option (RequestId × Words)). r >>= λ x. requests_from (front ++ x.0 ∷ []) (length requests) x.1) (request_are.again request (map request_word requests ++ rest) (All-head IsRequest request requests h))
    ∙ requests_again (front ++ request ∷ []) requests rest (All-tail IsRequest request requests h)
    ∙ ap (λ (rs : List RequestId). Some (rs, rest)) (append_assoc front (request ∷ []) requests)

requests_inner : (requests : List RequestId) → All IsRequest requests → list_all is_word (map request_word requests) ≡ true
requests_inner [] h = refl
requests_inner (request ∷ requests) h =
    and_from (is_word (request_word request)) _ (request_is.inner request (All-head IsRequest request requests h)) (requests_inner requests (All-tail IsRequest request requests h))

pub requests_are : IsField requests_at requests_words AreRequests
unfolding requests_at
requests_are = record { takes = taken; again = again; inner = λ v h. and_from (is_word (decimal (length v))) _ (and_parts (is_word (decimal (length v))) true (number_64.inner (length v) h.0)).0 (requests_inner v h.1) } where
  taken : (words : Words) (x : List RequestId × Words) → requests_at words ≡ Some x → (words ≡ requests_words x.0 ++ x.1) × AreRequests x.0
  taken words x e =
      let many = bind_some (number_at 18446744073709551615 words) (λ many. requests_from [] many.0 many.1) x e in
      let number = number_64.takes words many.0 many.1 in
      let read = requests_take [] many.0.0 many.0.1 x many.2 in
      let same = sym read.all in
      subst (λ (rs : List RequestId). (words ≡ requests_words rs ++ x.1) × AreRequests rs) same (
        number.0 ∙ ap (λ (ws : Words). decimal many.0.0 ∷ ws) read.spelled ∙ ap (λ n. decimal n ∷ (map request_word read.requests ++ x.1)) read.many,
        (subst (λ n. n < 2 ^ 64) read.many number.1, read.fit),
      )

  again : (v : List RequestId) (rest : Words) → AreRequests v → requests_at (requests_words v ++ rest) ≡ Some (v, rest)
  again v rest h =
      ap (λ (r : Option (ℕ × Words)). r >>= λ many. requests_from [] many.0 many.1) (number_64.again (length v) (map request_word v ++ rest) h.0)
      ∙ requests_again [] v rest h.1

-- ---- how a request ended

pub outcome_is : IsField outcome_at outcome_words IsOutcome
unfolding outcome_at
outcome_is = by_word_is outcome_form outcome_words IsOutcome taken again inner where
  taken : (word : List ℕ) (words : Words) (x : Outcome × Words) → outcome_form word words ≡ Some x → Spells outcome_words IsOutcome word words x
  taken word words x =
      chosen coded_is returned outcome_words IsOutcome (codes "Returned") (λ v. refl) (λ v p. p) word words x _
      (chosen coded_is failed outcome_words IsOutcome (codes "Failed") (λ v. refl) (λ v p. p) word words x _
      (chosen nothing_is (λ _. outcomes.BadReturn) outcome_words IsOutcome (codes "BadReturn") (λ v. refl) (λ v p. tt) word words x _
      (chosen number_64 outcomes.BadForward outcome_words IsOutcome (codes "BadForward") (λ v. refl) (λ v p. p) word words x _
      (chosen nothing_is (λ _. outcomes.Died) outcome_words IsOutcome (codes "Died") (λ v. refl) (λ v p. tt) word words x _
      (chosen nothing_is (λ _. outcomes.Starved) outcome_words IsOutcome (codes "Starved") (λ v. refl) (λ v p. tt) word words x None (λ h. absurd cc))))))

  again : (v : Outcome) (rest : Words) → IsOutcome v → by_word outcome_form (outcome_words v ++ rest) ≡ Some (v, rest)
  again (outcomes.Returned code payload) rest h = said_again coded_is returned (code, payload) rest h
  again (outcomes.Failed code payload) rest h = said_again coded_is failed (code, payload) rest h
  again outcomes.BadReturn rest h = refl
  again (outcomes.BadForward version) rest h = said_again number_64 outcomes.BadForward version rest h
  again outcomes.Died rest h = refl
  again outcomes.Starved rest h = refl

  inner : (v : Outcome) → IsOutcome v → list_all is_word (outcome_words v) ≡ true
  inner (outcomes.Returned code payload) h = coded_is.inner (code, payload) h
  inner (outcomes.Failed code payload) h = coded_is.inner (code, payload) h
  inner outcomes.BadReturn h = refl
  inner (outcomes.BadForward version) h = number_64.inner version h
  inner outcomes.Died h = refl
  inner outcomes.Starved h = refl

-- ---- why a life ended

pub cause_is : IsField cause_at cause_words IsCause
unfolding cause_at
cause_is = by_word_is cause_form cause_words IsCause taken again inner where
  taken : (word : List ℕ) (words : Words) (x : StopCause × Words) → cause_form word words ≡ Some x → Spells cause_words IsCause word words x
  taken word words x =
      chosen nothing_is (λ _. causes.Shutdown) cause_words IsCause (codes "Shutdown") (λ v. refl) (λ v p. tt) word words x _
      (chosen nothing_is (λ _. causes.Exit) cause_words IsCause (codes "Exit") (λ v. refl) (λ v p. tt) word words x _
      (chosen nothing_is (λ _. causes.EndOfInput) cause_words IsCause (codes "EndOfInput") (λ v. refl) (λ v p. tt) word words x _
      (chosen nothing_is (λ _. causes.ReadFault) cause_words IsCause (codes "ReadFault") (λ v. refl) (λ v p. tt) word words x _
      (chosen nothing_is (λ _. causes.WriteFault) cause_words IsCause (codes "WriteFault") (λ v. refl) (λ v p. tt) word words x _
      (chosen number_64 causes.BadBytes cause_words IsCause (codes "BadBytes") (λ v. refl) (λ v p. p) word words x _
      (chosen (both_is number_8 number_32) out_of_turn cause_words IsCause (codes "OutOfTurn") (λ v. refl) (λ v p. p) word words x _
      (chosen nothing_is (λ _. causes.Starved) cause_words IsCause (codes "Starved") (λ v. refl) (λ v p. tt) word words x None (λ h. absurd cc))))))))

  again : (v : StopCause) (rest : Words) → IsCause v → by_word cause_form (cause_words v ++ rest) ≡ Some (v, rest)
  again causes.Shutdown rest h = refl
  again causes.Exit rest h = refl
  again causes.EndOfInput rest h = refl
  again causes.ReadFault rest h = refl
  again causes.WriteFault rest h = refl
  again (causes.BadBytes place) rest h = said_again number_64 causes.BadBytes place rest h
  again (causes.OutOfTurn kind tag) rest h = said_again (both_is number_8 number_32) out_of_turn (kind, tag) rest h
  again causes.Starved rest h = refl

  inner : (v : StopCause) → IsCause v → list_all is_word (cause_words v) ≡ true
  inner causes.Shutdown h = refl
  inner causes.Exit h = refl
  inner causes.EndOfInput h = refl
  inner causes.ReadFault h = refl
  inner causes.WriteFault h = refl
  inner (causes.BadBytes place) h = number_64.inner place h
  inner (causes.OutOfTurn kind tag) h = (both_is number_8 number_32).inner (kind, tag) h
  inner causes.Starved h = refl

-- ---- answers, and what an end of a conversation received

pub answer_is : IsField answer_at answer_words IsAnswer
unfolding answer_at
answer_is = by_word_is answer_form answer_words IsAnswer taken again inner where
  taken : (word : List ℕ) (words : Words) (x : Answer × Words) → answer_form word words ≡ Some x → Spells answer_words IsAnswer word words x
  taken word words x =
      chosen coded_is succeeded answer_words IsAnswer (codes "Success") (λ v. refl) (λ v p. p) word words x _
      (chosen coded_is refused answer_words IsAnswer (codes "Failed") (λ v. refl) (λ v p. p) word words x _
      (chosen faults_are answers.Error answer_words IsAnswer (codes "Error") (λ v. refl) (λ v p. p) word words x None (λ h. absurd cc)))

  again : (v : Answer) (rest : Words) → IsAnswer v → by_word answer_form (answer_words v ++ rest) ≡ Some (v, rest)
  again (answers.Success code payload) rest h = said_again coded_is succeeded (code, payload) rest h
  again (answers.Failed code payload) rest h = said_again coded_is refused (code, payload) rest h
  again (answers.Error fault) rest h = said_again faults_are answers.Error fault rest h

  inner : (v : Answer) → IsAnswer v → list_all is_word (answer_words v) ≡ true
  inner (answers.Success code payload) h = coded_is.inner (code, payload) h
  inner (answers.Failed code payload) h = coded_is.inner (code, payload) h
  inner (answers.Error fault) h = faults_are.inner fault h

pub item_is : IsField item_at item_words IsItem
unfolding item_at
item_is = by_word_is item_form item_words IsItem taken again inner where
  taken : (word : List ℕ) (words : Words) (x : Item × Words) → item_form word words ≡ Some x → Spells item_words IsItem word words x
  taken word words x =
      chosen (both_is data_is truths_are) message item_words IsItem (codes "Message") (λ v. refl) (λ v p. p.0) word words x _
      (chosen (both_is ends_are coded_is) ending item_words IsItem (codes "Ending") (λ v. refl) (λ v p. p.1) word words x None (λ h. absurd cc))

  again : (v : Item) (rest : Words) → IsItem v → by_word item_form (item_words v ++ rest) ≡ Some (v, rest)
  again (items.Message payload passes) rest h = said_again (both_is data_is truths_are) message (payload, passes) rest (h, tt)
  again (items.Ending event code payload) rest h = said_again (both_is ends_are coded_is) ending (event, (code, payload)) rest (tt, h)

  inner : (v : Item) → IsItem v → list_all is_word (item_words v) ≡ true
  inner (items.Message payload passes) h = (both_is data_is truths_are).inner (payload, passes) (h, tt)
  inner (items.Ending event code payload) h = (both_is ends_are coded_is).inner (event, (code, payload)) (tt, h)

-- ---- evidence

pub evidence_is : IsField evidence_at evidence_words IsEvidence
unfolding evidence_at
evidence_is = by_word_is evidence_form evidence_words IsEvidence taken again inner where
  taken : (word : List ℕ) (words : Words) (x : Evidence × Words) → evidence_form word words ≡ Some x → Spells evidence_words IsEvidence word words x
  taken word words x =
      chosen nothing_is (λ _. evidences.Argument) evidence_words IsEvidence (codes "Argument") (λ v. refl) (λ v p. tt) word words x _
      (chosen number_64 evidences.Version evidence_words IsEvidence (codes "Version") (λ v. refl) (λ v p. p) word words x _
      (chosen number_64 evidences.AllDown evidence_words IsEvidence (codes "AllDown") (λ v. refl) (λ v p. p) word words x _
      (chosen number_64 evidences.Descriptor evidence_words IsEvidence (codes "Descriptor") (λ v. refl) (λ v p. p) word words x _
      (chosen number_32 evidences.Cells evidence_words IsEvidence (codes "Cells") (λ v. refl) (λ v p. p) word words x _
      (chosen number_32 evidences.Connections evidence_words IsEvidence (codes "Connections") (λ v. refl) (λ v p. p) word words x _
      (chosen number_32 evidences.Rows evidence_words IsEvidence (codes "Rows") (λ v. refl) (λ v p. p) word words x _
      (chosen number_64 evidences.Clock evidence_words IsEvidence (codes "Clock") (λ v. refl) (λ v p. p) word words x _
      (chosen (both_is number_16 number_32) full evidence_words IsEvidence (codes "Queue") (λ v. refl) (λ v p. p) word words x _
      (chosen nothing_is (λ _. evidences.Pool) evidence_words IsEvidence (codes "Pool") (λ v. refl) (λ v p. tt) word words x _
      (chosen number_64 evidences.Conversation evidence_words IsEvidence (codes "Conversation") (λ v. refl) (λ v p. p) word words x _
      (chosen (both_is number_64 number_64) late evidence_words IsEvidence (codes "Deadline") (λ v. refl) (λ v p. p) word words x _
      (chosen truths_are evidences.Control evidence_words IsEvidence (codes "Control") (λ v. refl) (λ v p. p) word words x _
      (chosen nothing_is (λ _. evidences.Role) evidence_words IsEvidence (codes "Role") (λ v. refl) (λ v p. tt) word words x _
      (chosen names_are evidences.Routine evidence_words IsEvidence (codes "Routine") (λ v. refl) (λ v p. p) word words x _
      (chosen nothing_is (λ _. evidences.NoRow) evidence_words IsEvidence (codes "NoRow") (λ v. refl) (λ v p. tt) word words x _
      (chosen (both_is number_64 (both_is ends_are signed_are)) over evidence_words IsEvidence (codes "Ended") (λ v. refl) (λ v p. (p.0, p.1.1)) word words x None (λ h. absurd cc)))))))))))))))))

  again : (v : Evidence) (rest : Words) → IsEvidence v → by_word evidence_form (evidence_words v ++ rest) ≡ Some (v, rest)
  again evidences.Argument rest h = refl
  again (evidences.Version version) rest h = said_again number_64 evidences.Version version rest h
  again (evidences.AllDown version) rest h = said_again number_64 evidences.AllDown version rest h
  again (evidences.Descriptor descriptor) rest h = said_again number_64 evidences.Descriptor descriptor rest h
  again (evidences.Cells many) rest h = said_again number_32 evidences.Cells many rest h
  again (evidences.Connections many) rest h = said_again number_32 evidences.Connections many rest h
  again (evidences.Rows many) rest h = said_again number_32 evidences.Rows many rest h
  again (evidences.Clock tick) rest h = said_again number_64 evidences.Clock tick rest h
  again (evidences.Queue queue waiting) rest h = said_again (both_is number_16 number_32) full (queue.0, waiting) rest h
  again evidences.Pool rest h = refl
  again (evidences.Conversation descriptor) rest h = said_again number_64 evidences.Conversation descriptor rest h
  again (evidences.Deadline tick deadline) rest h = said_again (both_is number_64 number_64) late (tick, deadline) rest h
  again (evidences.Control has) rest h = said_again truths_are evidences.Control has rest h
  again evidences.Role rest h = refl
  again (evidences.Routine routine) rest h = said_again names_are evidences.Routine routine rest h
  again evidences.NoRow rest h = refl
  again (evidences.Ended descriptor event code) rest h = said_again (both_is number_64 (both_is ends_are signed_are)) over (descriptor, (event, code)) rest (h.0, (tt, h.1))

  inner : (v : Evidence) → IsEvidence v → list_all is_word (evidence_words v) ≡ true
  inner evidences.Argument h = refl
  inner (evidences.Version version) h = number_64.inner version h
  inner (evidences.AllDown version) h = number_64.inner version h
  inner (evidences.Descriptor descriptor) h = number_64.inner descriptor h
  inner (evidences.Cells many) h = number_32.inner many h
  inner (evidences.Connections many) h = number_32.inner many h
  inner (evidences.Rows many) h = number_32.inner many h
  inner (evidences.Clock tick) h = number_64.inner tick h
  inner (evidences.Queue queue waiting) h = (both_is number_16 number_32).inner (queue.0, waiting) h
  inner evidences.Pool h = refl
  inner (evidences.Conversation descriptor) h = number_64.inner descriptor h
  inner (evidences.Deadline tick deadline) h = (both_is number_64 number_64).inner (tick, deadline) h
  inner (evidences.Control has) h = truths_are.inner has h
  inner evidences.Role h = refl
  inner (evidences.Routine routine) h = names_are.inner routine h
  inner evidences.NoRow h = refl
  inner (evidences.Ended descriptor event code) h = (both_is number_64 (both_is ends_are signed_are)).inner (descriptor, (event, code)) (h.0, (tt, h.1))

pub call_is : IsField call_at (λ v. decimal v.0 ∷ decimal v.1 ∷ []) (λ v. IsCall v.0 v.1)
call_is = both_is number_16 number_32

pub life_is : IsField life_at (λ v. decimal v.0 ∷ decimal v.1 ∷ []) (λ v. IsLife v.0 v.1)
life_is = both_is number_16 number_64
