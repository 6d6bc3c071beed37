-- Operations, replies and bodies: what is read is spelled so, and what is spelled so is read.
use Rattle.std.proofs.Common.{◌≡◌, ℕ, ◌≤◌, List, ◌∷◌, ◌++◌, length, Option, Some, None, refl, sym, ap, subst, ◌∙◌, arith}
use Rattle.std.proofs.lemmas.List.{length-append}
use Rattle.xa_types.specs.declared.data.Data.{Data}
use Rattle.xa_types.specs.declared.data.Data.TheVariants.{Absent, Octet, Struct}
use Rattle.xa_types.specs.declared.data.Kind.{Kind}
use Rattle.xa_types.specs.declared.data.Kind.TheVariants as data_kinds
use Rattle.xa_types.specs.declared.call.Direction.{Direction}
use Rattle.xa_types.specs.declared.call.Direction.TheVariants.{Neither}
use Rattle.xa_types.specs.declared.call.Op.{Op}
use Rattle.xa_types.specs.declared.call.Op.TheVariants as ops
use Rattle.xa_types.specs.declared.reply.Answer.{Answer}
use Rattle.xa_types.specs.declared.reply.Answer.TheVariants as answers
use Rattle.xa_types.specs.declared.reply.Reply.{Reply}
use Rattle.xa_types.specs.declared.reply.Reply.TheVariants as replies
use Rattle.xa_frame.specs.declared.frame.Body.{Body}
use Rattle.xa_frame.specs.declared.frame.Body.TheVariants as bodies
use Rattle.xa_frame.specs.declared.header.FrameKind.{FrameKind}
use Rattle.xa_frame.specs.declared.header.FrameKind.TheVariants as kinds
use Rattle.xa_frame.specs.Spelling.{word, sized, data_kind_octets, data_octets, mode_octet, op_octets, answer_octets, reply_octets, body_octets, IsWord, IsDataKind, IsData, IsOp, IsAnswer, IsReply, IsBody}
use Rattle.xa_frame.specs.Reading.{said, called, acalled, got, got_any, connected, sent, received, prior, advertised, succeeded, failed, answered, evented, returned, forwarded, invoked, call_of, acall_of, get_of, get_any_of, cancel_of, connect_of, send_of, receive_of, disconnect_of, priority_of, advertise_of, unadvertise_of, tick_of, op_form, op_of, answer_form, answer_of, descriptor_of, now_of, answered_of, message_of, event_reply_of, fault_reply_of, reply_form, reply_of, return_of, forward_of, invoke_of, body_of, most_octets}
use Rattle.xa_frame.proofs.FieldLemmas.{IsBytes, IsForm, nothing_is, last_is, before_is, said_takes, said_again, Spells, chosen, forms_are}
use Rattle.xa_frame.proofs.PartLemmas.{truth_is, direction_is, rval_is, mode_is, fault_is, event_is, flags_are, number_is, signed_is, long_is, word_is, name_is, name_short, data_kind_is, data_is, coded_is}

-- ---- operations

op_taken : (k : ℕ) (bytes : List ℕ) (x : Op) → IsBytes bytes → op_form k bytes ≡ Some x → Spells op_octets IsOp k bytes x
unfolding call_of acall_of get_of get_any_of cancel_of connect_of send_of receive_of disconnect_of priority_of advertise_of unadvertise_of tick_of
op_taken k bytes x fits =
    chosen (before_is flags_are (before_is word_is (before_is data_kind_is data_is))) called op_octets IsOp 1 (λ v. refl) (λ v p. (p.1.0, p.1.1.0, p.1.1.1, refl)) k bytes x fits _
    (chosen (before_is flags_are (before_is word_is data_is)) acalled op_octets IsOp 2 (λ v. refl) (λ v p. (p.1.0, p.1.1, refl, refl)) k bytes x fits _
    (chosen (before_is flags_are (before_is long_is (last_is data_kind_is))) got op_octets IsOp 3 (λ v. refl) (λ v p. p.1) k bytes x fits _
    (chosen (before_is flags_are (last_is data_kind_is)) got_any op_octets IsOp 4 (λ v. refl) (λ v p. p.1) k bytes x fits _
    (chosen (last_is long_is) ops.Cancel op_octets IsOp 5 (λ v. refl) (λ v p. p) k bytes x fits _
    (chosen (before_is flags_are (before_is direction_is (before_is word_is data_is))) connected op_octets IsOp 6 (λ v. refl) (λ v p. (p.1.1.0, p.1.1.1, refl)) k bytes x fits _
    (chosen (before_is flags_are (before_is long_is (before_is truth_is data_is))) sent op_octets IsOp 7 (λ v. refl) (λ v p. (p.1.0, p.1.1.1)) k bytes x fits _
    (chosen (before_is flags_are (last_is long_is)) received op_octets IsOp 8 (λ v. refl) (λ v p. p.1) k bytes x fits _
    (chosen (last_is long_is) ops.Disconnect op_octets IsOp 9 (λ v. refl) (λ v p. p) k bytes x fits _
    (chosen (before_is truth_is (last_is signed_is)) prior op_octets IsOp 10 (λ v. refl) (λ v p. p.1) k bytes x fits _
    (chosen (before_is word_is (last_is word_is)) advertised op_octets IsOp 11 (λ v. refl) (λ v p. p) k bytes x fits _
    (chosen (last_is word_is) ops.Unadvertise op_octets IsOp 12 (λ v. refl) (λ v p. p) k bytes x fits _
    (chosen (last_is number_is) ops.Tick op_octets IsOp 13 (λ v. refl) (λ v p. p) k bytes x fits None (λ h. absurd cc)))))))))))))

op_again : (op : Op) → IsOp op → op_of (op_octets op) ≡ Some op
unfolding op_of call_of acall_of get_of get_any_of cancel_of connect_of send_of receive_of disconnect_of priority_of advertise_of unadvertise_of tick_of
op_again (ops.Call ask) h =
    said_again (before_is flags_are (before_is word_is (before_is data_kind_is data_is))) called (ask.flags, (ask.service, (ask.expect, ask.payload))) (tt, (h.0, (h.1, h.2)))
    ∙ ap (λ (d : Direction). Some (ops.Call (record { service = ask.service; payload = ask.payload; flags = ask.flags; expect = ask.expect; direction = d }))) (sym h.3)
op_again (ops.Acall ask) h =
    said_again (before_is flags_are (before_is word_is data_is)) acalled (ask.flags, (ask.service, ask.payload)) (tt, (h.0, h.1))
    ∙ ap (λ (k : Option Kind). Some (ops.Acall (record { service = ask.service; payload = ask.payload; flags = ask.flags; expect = k; direction = Neither }))) (sym h.2) ∙ ap (λ (d : Direction). Some (ops.Acall (record { service = ask.service; payload = ask.payload; flags = ask.flags; expect = ask.expect; direction = d }))) (sym h.3)
op_again (ops.Get descriptor flags expect) h = said_again (before_is flags_are (before_is long_is (last_is data_kind_is))) got (flags, (descriptor, expect)) (tt, h)
op_again (ops.GetAny flags expect) h = said_again (before_is flags_are (last_is data_kind_is)) got_any (flags, expect) (tt, h)
op_again (ops.Cancel descriptor) h = said_again (last_is long_is) ops.Cancel descriptor h
op_again (ops.Connect ask) h =
    said_again (before_is flags_are (before_is direction_is (before_is word_is data_is))) connected (ask.flags, (ask.direction, (ask.service, ask.payload))) (tt, (tt, (h.0, h.1)))
    ∙ ap (λ (k : Option Kind). Some (ops.Connect (record { service = ask.service; payload = ask.payload; flags = ask.flags; expect = k; direction = ask.direction }))) (sym h.2)
op_again (ops.Send descriptor flags recv_only payload) h = said_again (before_is flags_are (before_is long_is (before_is truth_is data_is))) sent (flags, (descriptor, (recv_only, payload))) (tt, (h.0, (tt, h.1)))
op_again (ops.Receive descriptor flags) h = said_again (before_is flags_are (last_is long_is)) received (flags, descriptor) (tt, h)
op_again (ops.Disconnect descriptor) h = said_again (last_is long_is) ops.Disconnect descriptor h
op_again (ops.Priority absolute amount) h = said_again (before_is truth_is (last_is signed_is)) prior (absolute, amount) (tt, h)
op_again (ops.Advertise service routine) h = said_again (before_is word_is (last_is word_is)) advertised (service, routine) h
op_again (ops.Unadvertise service) h = said_again (last_is word_is) ops.Unadvertise service h
op_again (ops.Tick ticks) h = said_again (last_is number_is) ops.Tick ticks h

pub op_is : IsForm op_of op_octets IsOp
unfolding op_of
op_is = forms_are op_form op_octets IsOp op_taken op_again

-- ---- replies

answer_taken : (k : ℕ) (bytes : List ℕ) (x : Answer) → IsBytes bytes → answer_form k bytes ≡ Some x → Spells answer_octets IsAnswer k bytes x
answer_taken k bytes x fits =
    chosen coded_is succeeded answer_octets IsAnswer 0 (λ v. refl) (λ v p. p) k bytes x fits _
    (chosen coded_is failed answer_octets IsAnswer 1 (λ v. refl) (λ v p. p) k bytes x fits _
    (chosen (last_is fault_is) answers.Error answer_octets IsAnswer 2 (λ v. refl) (λ v p. tt) k bytes x fits None (λ h. absurd cc)))

answer_again : (a : Answer) → IsAnswer a → answer_of (answer_octets a) ≡ Some a
unfolding answer_of
answer_again (answers.Success code payload) h = said_again coded_is succeeded (code, payload) h
answer_again (answers.Failed code payload) h = said_again coded_is failed (code, payload) h
answer_again (answers.Error fault) h = said_again (last_is fault_is) answers.Error fault tt

answer_is : IsForm answer_of answer_octets IsAnswer
unfolding answer_of
answer_is = forms_are answer_form answer_octets IsAnswer answer_taken answer_again

reply_taken : (k : ℕ) (bytes : List ℕ) (x : Reply) → IsBytes bytes → reply_form k bytes ≡ Some x → Spells reply_octets IsReply k bytes x
unfolding descriptor_of now_of answered_of message_of event_reply_of fault_reply_of
reply_taken k bytes x fits =
    chosen nothing_is (λ _. replies.Done) reply_octets IsReply 0 (λ v. refl) (λ v p. tt) k bytes x fits _
    (chosen (last_is long_is) replies.Descriptor reply_octets IsReply 1 (λ v. refl) (λ v p. p) k bytes x fits _
    (chosen (last_is long_is) replies.Now reply_octets IsReply 2 (λ v. refl) (λ v p. p) k bytes x fits _
    (chosen (before_is long_is answer_is) answered reply_octets IsReply 3 (λ v. refl) (λ v p. p) k bytes x fits _
    (chosen data_is replies.Message reply_octets IsReply 4 (λ v. refl) (λ v p. p) k bytes x fits _
    (chosen (before_is event_is coded_is) evented reply_octets IsReply 5 (λ v. refl) (λ v p. p.1) k bytes x fits _
    (chosen (last_is fault_is) replies.Fault reply_octets IsReply 6 (λ v. refl) (λ v p. tt) k bytes x fits None (λ h. absurd cc)))))))

reply_again : (r : Reply) → IsReply r → reply_of (reply_octets r) ≡ Some r
unfolding reply_of descriptor_of now_of answered_of message_of event_reply_of fault_reply_of
reply_again replies.Done h = refl
reply_again (replies.Descriptor descriptor) h = said_again (last_is long_is) replies.Descriptor descriptor h
reply_again (replies.Now now) h = said_again (last_is long_is) replies.Now now h
reply_again (replies.Answered descriptor answer) h = said_again (before_is long_is answer_is) answered (descriptor, answer) h
reply_again (replies.Message payload) h = said_again data_is replies.Message payload h
reply_again (replies.Event event code payload) h = said_again (before_is event_is coded_is) evented (event, (code, payload)) (tt, h)
reply_again (replies.Fault fault) h = said_again (last_is fault_is) replies.Fault fault tt

pub reply_is : IsForm reply_of reply_octets IsReply
unfolding reply_of
reply_is = forms_are reply_form reply_octets IsReply reply_taken reply_again

-- ---- bodies

abbrev pub kind_is : Body → FrameKind
kind_is (bodies.Ready name) = kinds.Ready
kind_is bodies.Next = kinds.Next
kind_is (bodies.Op op) = kinds.Op
kind_is (bodies.Return value code payload) = kinds.Return
kind_is (bodies.Forward service payload) = kinds.Forward
kind_is (bodies.Invoke service routine mode payload) = kinds.Invoke
kind_is (bodies.Reply reply) = kinds.Reply
kind_is bodies.Shutdown = kinds.Shutdown

-- all of the octets are that body, which is of that kind
pub record IsSpelled (kind : FrameKind) (bytes : List ℕ) (b : Body) : Type 0 where
  pub kind_as : kind ≡ kind_is b
  pub whole : bytes ≡ body_octets b
  pub sound : IsBody b

-- a body that is made of what all of the octets are
spelled_as : {A : Type 0} {g : List ℕ → Option A} {s : A → List ℕ} {P : A → Type 0} (is : IsForm g s P) (kind : FrameKind) (to : A → Body) → ((v : A) → kind ≡ kind_is (to v)) → ((v : A) → s v ≡ body_octets (to v)) → ((v : A) → P v → IsBody (to v))
    → (bytes : List ℕ) (b : Body) → IsBytes bytes → said to g bytes ≡ Some b → IsSpelled kind bytes b
spelled_as is kind to of same sound bytes b fits e =
    let v = said_takes is to bytes b fits e in
    subst (IsSpelled kind bytes) v.3 (record { kind_as = of v.0; whole = v.1 ∙ same v.0; sound = sound v.0 v.2 })

pub body_takes : (kind : FrameKind) (bytes : List ℕ) (b : Body) → IsBytes bytes → body_of kind bytes ≡ Some b → IsSpelled kind bytes b
unfolding return_of forward_of invoke_of
body_takes kinds.Ready = spelled_as (last_is name_is) kinds.Ready bodies.Ready (λ v. refl) (λ v. refl) (λ v p. p)
body_takes kinds.Next = spelled_as nothing_is kinds.Next (λ _. bodies.Next) (λ v. refl) (λ v. refl) (λ v p. tt)
body_takes kinds.Op = spelled_as op_is kinds.Op bodies.Op (λ v. refl) (λ v. refl) (λ v p. p)
body_takes kinds.Return = spelled_as (before_is rval_is coded_is) kinds.Return returned (λ v. refl) (λ v. refl) (λ v p. p.1)
body_takes kinds.Forward = spelled_as (before_is word_is data_is) kinds.Forward forwarded (λ v. refl) (λ v. refl) (λ v p. p)
body_takes kinds.Invoke = spelled_as (before_is name_is (before_is name_is (before_is mode_is data_is))) kinds.Invoke invoked (λ v. refl) (λ v. refl) (λ v p. (p.0, p.1.0, p.1.1.1))
body_takes kinds.Reply = spelled_as reply_is kinds.Reply bodies.Reply (λ v. refl) (λ v. refl) (λ v p. p)
body_takes kinds.Shutdown = spelled_as nothing_is kinds.Shutdown (λ _. bodies.Shutdown) (λ v. refl) (λ v. refl) (λ v p. tt)

pub body_again : (b : Body) → IsBody b → body_of (kind_is b) (body_octets b) ≡ Some b
unfolding return_of forward_of invoke_of
body_again (bodies.Ready name) h = said_again (last_is name_is) bodies.Ready name h
body_again bodies.Next h = refl
body_again (bodies.Op op) h = said_again op_is bodies.Op op h
body_again (bodies.Return value code payload) h = said_again (before_is rval_is coded_is) returned (value, (code, payload)) (tt, h)
body_again (bodies.Forward service payload) h = said_again (before_is word_is data_is) forwarded (service, payload) h
body_again (bodies.Invoke service routine mode payload) h =
    said_again (before_is name_is (before_is name_is (before_is mode_is data_is))) invoked (service, (routine, (mode, payload))) (h.0, (h.1, (tt, h.2)))
body_again (bodies.Reply reply) h = said_again reply_is bodies.Reply reply h
body_again bodies.Shutdown h = refl

-- ---- lengths

kind_short : (k : Option Kind) → IsDataKind k → length (data_kind_octets k) ≤ 33
kind_short None h = omega arith
kind_short (Some data_kinds.Octet) h = omega arith
kind_short (Some (data_kinds.Struct name)) h = let s = name_short name h in omega arith

data_short : (d : Data) → IsData d → length (data_octets d) ≤ 65_573
data_short Absent h = omega arith
data_short (Octet octets) h = omega arith
data_short (Struct subtype octets) h =
    let s = name_short subtype h.0 in
    let n = h.1 in
    omega (arith, length-append subtype (sized octets))

-- the fields of an ask
ask_short : (service : List ℕ) (k : Option Kind) (payload : Data) → IsWord service → IsDataKind k → IsData payload → length (word service ++ (data_kind_octets k ++ data_octets payload)) ≤ 65_862
ask_short service k payload h i j =
    let s = kind_short k i in
    let d = data_short payload j in
    omega (arith, length-append service (data_kind_octets k ++ data_octets payload), length-append (data_kind_octets k) (data_octets payload))

sent_short : (service : List ℕ) (payload : Data) → IsWord service → IsData payload → length (word service ++ data_octets payload) ≤ 65_829
sent_short service payload h j = let d = data_short payload j in omega (arith, length-append service (data_octets payload))

op_short : (op : Op) → IsOp op → length (op_octets op) ≤ 66_000
op_short (ops.Call ask) h = let s = ask_short ask.service ask.expect ask.payload h.0 h.1 h.2 in omega arith
op_short (ops.Acall ask) h = let s = sent_short ask.service ask.payload h.0 h.1 in omega arith
op_short (ops.Get descriptor flags expect) h = let s = kind_short expect h.1 in omega arith
op_short (ops.GetAny flags expect) h = let s = kind_short expect h in omega arith
op_short (ops.Cancel descriptor) h = omega arith
op_short (ops.Connect ask) h = let s = sent_short ask.service ask.payload h.0 h.1 in omega arith
op_short (ops.Send descriptor flags recv_only payload) h = let s = data_short payload h.1 in omega arith
op_short (ops.Receive descriptor flags) h = omega arith
op_short (ops.Disconnect descriptor) h = omega arith
op_short (ops.Priority absolute amount) h = omega arith
op_short (ops.Advertise service routine) h = let s = h.0 in let t = h.1 in omega (arith, length-append service (word routine))
op_short (ops.Unadvertise service) h = omega arith
op_short (ops.Tick ticks) h = omega arith

answer_short : (a : Answer) → IsAnswer a → length (answer_octets a) ≤ 65_578
answer_short (answers.Success code payload) h = let s = data_short payload h.1 in omega arith
answer_short (answers.Failed code payload) h = let s = data_short payload h.1 in omega arith
answer_short (answers.Error fault) h = omega arith

reply_short : (r : Reply) → IsReply r → length (reply_octets r) ≤ 66_000
reply_short replies.Done h = omega arith
reply_short (replies.Descriptor descriptor) h = omega arith
reply_short (replies.Now now) h = omega arith
reply_short (replies.Answered descriptor answer) h = let s = answer_short answer h.1 in omega arith
reply_short (replies.Message payload) h = let s = data_short payload h in omega arith
reply_short (replies.Event event code payload) h = let s = data_short payload h.1 in omega arith
reply_short (replies.Fault fault) h = omega arith

pub body_short : (b : Body) → IsBody b → length (body_octets b) ≤ most_octets (kind_is b)
body_short (bodies.Ready name) h = let s = name_short name h in omega arith
body_short bodies.Next h = omega arith
body_short (bodies.Op op) h = op_short op h
body_short (bodies.Return value code payload) h = let s = data_short payload h.1 in omega arith
body_short (bodies.Forward service payload) h = let s = sent_short service payload h.0 h.1 in omega arith
body_short (bodies.Invoke service routine mode payload) h =
    let s = name_short service h.0 in
    let t = name_short routine h.1 in
    let d = data_short payload h.2 in
    omega (arith, length-append service (word routine ++ mode_octet mode ∷ data_octets payload), length-append routine (mode_octet mode ∷ data_octets payload))
body_short (bodies.Reply reply) h = reply_short reply h
body_short bodies.Shutdown h = omega arith
