-- To each OP a REPLY goes, in order, with its tag.
use Rattle.std.proofs.Common.{◌≡◌, ◌⊎◌, ℕ, ◌-◌, List, [], ◌∷◌, ◌++◌, length, inl, inr, refl, sym, ◌∙◌, ap, subst, append-nil, arith}
use Rattle.std.specs.Prelude.{take}
use Rattle.std.proofs.lemmas.List.{length-append, map-append}
use Rattle.std.proofs.lemmas.List.Elements.{filter-append}
use Rattle.xa_types.specs.declared.data.Data.{Data}
use Rattle.xa_types.specs.declared.call.Rval.{Rval}
use Rattle.xa_types.specs.declared.call.Rval.TheVariants.{Success, Fail, Exit as ExitValue}
use Rattle.xa_types.specs.declared.call.Op.{Op}
use Rattle.xa_types.specs.declared.reply.Reply.{Reply as Told}
use Rattle.xa_frame.specs.declared.frame.Frame.{Frame}
use Rattle.xa_pipe.specs.Frames.{ready_frame, next_frame, return_frame, forward_frame, op_frame, reply_frame, ops_in, replies_in, is_op_body, is_reply_body, tags_of}
use Rattle.xa_pipe.specs.Life.{Says, Turn, MaySay, IsFinish, EachReplied, tag_after, turn_behind}
use Rattle.xa_pipe.specs.Life.Says.{Silent, Named, Free, Invoked, Calls, Replied, CallsNoMore, Answers, Passes}
use Rattle.xa_pipe.specs.Pipe.{invoke_frame}
use Rattle.xa_pipe.specs.Changes.{turn_after}
use Rattle.xa_pipe.specs.declared.turn.Turn.TheVariants.{AwaitsReady, AwaitsNext, AwaitsInvoke, Serving, Finishing, Performing, Exited}

-- ---- lists

ops_push : (fs : List Frame) (f : Frame) → ops_in (fs ++ f ∷ []) ≡ ops_in fs ++ ops_in (f ∷ [])
ops_push fs f = filter-append (λ (g : Frame). is_op_body g.body) fs (f ∷ [])

replies_append : (fs gs : List Frame) → replies_in (fs ++ gs) ≡ replies_in fs ++ replies_in gs
replies_append fs gs = filter-append (λ (g : Frame). is_reply_body g.body) fs gs

take_front : (xs ys : List Frame) → take (length xs) (xs ++ ys) ≡ xs
take_front [] ys = refl
take_front (x ∷ xs) ys = ap (λ (zs : List Frame). x ∷ zs) (take_front xs ys)

but_last : (xs : List Frame) (f : Frame) → take (length (xs ++ f ∷ []) - 1) (xs ++ f ∷ []) ≡ xs
but_last xs f =
    let one_less : length (xs ++ f ∷ []) - 1 ≡ length xs = omega (arith, length-append xs (f ∷ [])) in
    ap (λ (n : ℕ). take n (xs ++ f ∷ [])) one_less ∙ take_front xs (f ∷ [])

-- ---- what the program says

-- a frame that is no OP changes nothing where no call is under way
no_call : (said asked : List Frame) (f : Frame) → ops_in (f ∷ []) ≡ [] → tags_of (ops_in said) ≡ tags_of (replies_in asked) → tags_of (ops_in (said ++ f ∷ [])) ≡ tags_of (replies_in asked)
no_call said asked f none each = ap tags_of (ops_push said f ∙ (ap (λ (fs : List Frame). ops_in said ++ fs) none ∙ append-nil (ops_in said))) ∙ each

behind_value : (value : Rval) (said asked : List Frame) → tags_of (ops_in said) ≡ tags_of (replies_in asked) → EachReplied (turn_behind value) said asked
behind_value Success said asked each = each
behind_value Fail said asked each = each
behind_value ExitValue said asked each = each

finish_replied : (tag : ℕ) (said asked : List Frame) (f : Frame) (turn : Turn) → (turn ≡ Serving) ⊎ (turn ≡ Finishing) → IsFinish tag f → tags_of (ops_in said) ≡ tags_of (replies_in asked)
    → EachReplied (turn_after turn f.body) (said ++ f ∷ []) asked
finish_replied tag said asked f turn (inl at) (inl (value, code, payload, is)) each =
    subst (λ (t : Turn). EachReplied (turn_after t f.body) (said ++ f ∷ []) asked) (sym at)
    (subst (λ (g : Frame). EachReplied (turn_after Serving g.body) (said ++ g ∷ []) asked) (sym is)
    (behind_value value (said ++ return_frame tag value code payload ∷ []) asked (no_call said asked (return_frame tag value code payload) refl each)))
finish_replied tag said asked f turn (inr at) (inl (value, code, payload, is)) each =
    subst (λ (t : Turn). EachReplied (turn_after t f.body) (said ++ f ∷ []) asked) (sym at)
    (subst (λ (g : Frame). EachReplied (turn_after Finishing g.body) (said ++ g ∷ []) asked) (sym is)
    (behind_value value (said ++ return_frame tag value code payload ∷ []) asked (no_call said asked (return_frame tag value code payload) refl each)))
finish_replied tag said asked f turn (inl at) (inr (service, payload, is)) each =
    subst (λ (t : Turn). EachReplied (turn_after t f.body) (said ++ f ∷ []) asked) (sym at)
    (subst (λ (g : Frame). EachReplied (turn_after Serving g.body) (said ++ g ∷ []) asked) (sym is) (no_call said asked (forward_frame tag service payload) refl each))
finish_replied tag said asked f turn (inr at) (inr (service, payload, is)) each =
    subst (λ (t : Turn). EachReplied (turn_after t f.body) (said ++ f ∷ []) asked) (sym at)
    (subst (λ (g : Frame). EachReplied (turn_after Finishing g.body) (said ++ g ∷ []) asked) (sym is) (no_call said asked (forward_frame tag service payload) refl each))

pub heard_replied : (name : List ℕ) (tag : ℕ) (said asked : List Frame) (turn : Turn) (f : Frame) → MaySay name tag turn f → EachReplied turn said asked → EachReplied (turn_after turn f.body) (said ++ f ∷ []) asked
heard_replied name tag said asked AwaitsReady f may each = subst (λ (g : Frame). EachReplied AwaitsNext (said ++ g ∷ []) asked) (sym may) (no_call said asked (ready_frame name) refl each)
heard_replied name tag said asked AwaitsNext f may each = subst (λ (g : Frame). EachReplied AwaitsInvoke (said ++ g ∷ []) asked) (sym may) (no_call said asked next_frame refl each)
heard_replied name tag said asked Serving f (inl finish) each = finish_replied tag said asked f Serving (inl refl) finish each
heard_replied name tag said asked Serving f (inr (op, may, is)) each =
    subst (λ (g : Frame). EachReplied (turn_after Serving g.body) (said ++ g ∷ []) asked) (sym is)
    (ap tags_of (ap (λ (fs : List Frame). take (length fs - 1) fs) (ops_push said (op_frame tag op)) ∙ but_last (ops_in said) (op_frame tag op)) ∙ each)
heard_replied name tag said asked Finishing f finish each = finish_replied tag said asked f Finishing (inr refl) finish each
heard_replied name tag said asked AwaitsInvoke f may each = absurd may
heard_replied name tag said asked Performing f may each = absurd may
heard_replied name tag said asked Exited f may each = absurd may

-- ---- what is written

pub invoked_replied : (said asked : List Frame) (service routine : List ℕ) (tag : ℕ) (payload : Data) → EachReplied AwaitsInvoke said asked → EachReplied Serving said (asked ++ invoke_frame service routine tag payload ∷ [])
invoked_replied said asked service routine tag payload each =
    each ∙ ap tags_of (sym (replies_append asked (invoke_frame service routine tag payload ∷ []) ∙ append-nil (replies_in asked)))

-- an OP is the last frame where a call is under way
not_performing : (value : Rval) → turn_behind value ≡ Performing → ⊥
not_performing Success e = cc e
not_performing Fail e = cc e
not_performing ExitValue e = cc e

under_way : {name : List ℕ} {n : ℕ} {frames : List Frame} {turn : Turn} → Says name n frames turn → turn ≡ Performing → (earlier : List Frame) × (op : Op) × (frames ≡ earlier ++ op_frame (tag_after n) op ∷ [])
under_way (Calls {n} {frames} op may says h) at = (frames, op, refl)
under_way Silent at = absurd (cc at)
under_way (Named h) at = absurd (cc at)
under_way (Free says) at = absurd (cc at)
under_way (Invoked says) at = absurd (cc at)
under_way (Replied says) at = absurd (cc at)
under_way (CallsNoMore says) at = absurd (cc at)
under_way (Answers value code payload says h) at = absurd (not_performing value at)
under_way (Passes service payload says h) at = absurd (cc at)

pub replies_so : {name : List ℕ} {n : ℕ} (said asked : List Frame) (reply : Told) → Says name n said Performing → EachReplied Performing said asked → EachReplied Serving said (asked ++ reply_frame (tag_after n) reply ∷ [])
replies_so {name} {n} said asked reply says each =
    let last = under_way says refl in
    let f = op_frame (tag_after n) last.1 in
    let all : ops_in said ≡ ops_in last.0 ++ f ∷ [] = ap ops_in last.2 ∙ ops_push last.0 f in
    let front : take (length (ops_in said) - 1) (ops_in said) ≡ ops_in last.0 = ap (λ (fs : List Frame). take (length fs - 1) fs) all ∙ but_last (ops_in last.0) f in
    ap tags_of all ∙ (map-append (λ (g : Frame). g.tag) (ops_in last.0) (f ∷ [])
    ∙ (ap (λ (ts : List ℕ). ts ++ tag_after n ∷ []) (sym (ap tags_of front) ∙ each)
    ∙ sym (ap tags_of (replies_append asked (reply_frame (tag_after n) reply ∷ [])) ∙ map-append (λ (g : Frame). g.tag) (replies_in asked) (reply_frame (tag_after n) reply ∷ []))))
