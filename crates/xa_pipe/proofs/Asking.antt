-- The calls that the program of a life asks for.
use Rattle.std.proofs.Common.{◌≡◌, ◌⊎◌, ℕ, ◌-◌, true, List, [], ◌∷◌, ◌++◌, length, inl, inr, refl, sym, ◌∙◌, ap, subst, append_assoc, append-nil, arith}
use Rattle.std.specs.Prelude.{take}
use Rattle.std.proofs.lemmas.List.{length-append}
use Rattle.xa_types.specs.declared.call.Op.{Op}
use Rattle.xa_types.specs.declared.call.Rval.{Rval}
use Rattle.xa_types.specs.declared.call.Rval.TheVariants.{Success, Fail, Exit as ExitValue}
use Rattle.xa_frame.specs.declared.frame.Frame.{Frame}
use Rattle.xa_pipe.specs.declared.hearing.Finish.{Finish}
use Rattle.xa_pipe.specs.declared.hearing.Finish.TheVariants.{Returns, Forwards}
use Rattle.xa_pipe.specs.declared.turn.Turn.{Turn}
use Rattle.xa_pipe.specs.declared.turn.Turn.TheVariants.{AwaitsReady, AwaitsNext, AwaitsInvoke, Serving, Finishing, Performing, Exited}
use Rattle.xa_pipe.specs.Frames.{next_frame, ready_frame, op_frame, return_frame, forward_frame, finish_frame, may_call}
use Rattle.xa_pipe.specs.Life.{LinkShows, IsFinish, MaySay, call_in, calls_in, replied_of, turn_behind, is_acting}
use Rattle.xa_pipe.specs.Standing.{LifeState, tag_of, calls_of}
use Rattle.xa_pipe.specs.Changes.{Heard, Greeted, turn_after, with_asked}

pub calls_append : (fs gs : List Frame) → calls_in (fs ++ gs) ≡ calls_in fs ++ calls_in gs
calls_append [] gs = refl
calls_append (f ∷ fs) gs = ap (λ (ops : List Op). call_in f.body ++ ops) (calls_append fs gs) ∙ sym (append_assoc (call_in f.body) (calls_in fs) (calls_in gs))

-- a frame that is no OP asks for none
calls_other : (said : List Frame) (f : Frame) → call_in f.body ≡ [] → calls_in (said ++ f ∷ []) ≡ calls_in said
calls_other said f none = calls_append said (f ∷ []) ∙ (ap (λ (ops : List Op). calls_in said ++ (ops ++ [])) none ∙ append-nil (calls_in said))

pub calls_push : (said : List Frame) (tag : ℕ) (op : Op) → calls_in (said ++ op_frame tag op ∷ []) ≡ calls_in said ++ op ∷ []
calls_push said tag op = calls_append said (op_frame tag op ∷ [])

finish_calls : (tag : ℕ) (back : Finish) → call_in (finish_frame tag back).body ≡ []
finish_calls tag (Returns back) = refl
finish_calls tag (Forwards forward) = refl

ops_front : (xs : List Op) (op : Op) → take (length xs) (xs ++ op ∷ []) ≡ xs
ops_front [] op = refl
ops_front (x ∷ xs) op = ap (λ (zs : List Op). x ∷ zs) (ops_front xs op)

but_last_op : (xs : List Op) (op : Op) → take (length (xs ++ op ∷ []) - 1) (xs ++ op ∷ []) ≡ xs
but_last_op xs op =
    let one_less : length (xs ++ op ∷ []) - 1 ≡ length xs = omega (arith, length-append xs (op ∷ [])) in
    ap (λ (n : ℕ). take n (xs ++ op ∷ [])) one_less ∙ ops_front xs op

-- where no call is to be made, all were
pub all_made : (turn : Turn) (ops : List Op) → (turn ≡ Performing → ⊥) → replied_of turn ops ≡ ops
all_made Performing ops none = absurd (none refl)
all_made AwaitsReady ops none = refl
all_made AwaitsNext ops none = refl
all_made AwaitsInvoke ops none = refl
all_made Serving ops none = refl
all_made Finishing ops none = refl
all_made Exited ops none = refl

-- ---- as the life goes on

pub calls_same : (old new : LifeState) → calls_in new.said ≡ calls_in old.said → (old.turn ≡ Performing → ⊥) → (new.turn ≡ Performing → ⊥) → calls_of new ≡ calls_of old
calls_same old new same before after = all_made new.turn (calls_in new.said) after ∙ (same ∙ sym (all_made old.turn (calls_in old.said) before))

-- its program greeted
pub calls_greeted : (old new : LifeState) → Greeted new old → (old.turn ≡ Performing → ⊥) → calls_of new ≡ calls_of old
calls_greeted old new greeted before =
    calls_same old new (ap (λ (l : LifeState). calls_in l.said) greeted.made ∙ (calls_append old.said (ready_frame old.name ∷ next_frame ∷ []) ∙ append-nil (calls_in old.said))) before
    (λ now. let turn : new.turn ≡ AwaitsInvoke = ap (λ (l : LifeState). l.turn) greeted.made in cc (turn, now))

-- it said NEXT
pub calls_next : (old new : LifeState) → Heard next_frame new old → old.turn ≡ AwaitsNext → calls_of new ≡ calls_of old
calls_next old new heard turn =
    calls_same old new (ap (λ (l : LifeState). calls_in l.said) heard.made ∙ calls_other old.said next_frame refl) (λ was. cc (was, turn))
    (λ now. let next : new.turn ≡ AwaitsInvoke = ap (λ (l : LifeState). l.turn) heard.made ∙ ap (λ (t : Turn). turn_after t next_frame.body) turn in cc (next, now))

value_next : (value : Rval) → turn_behind value ≡ Performing → ⊥
value_next Success e = cc e
value_next Fail e = cc e
value_next ExitValue e = cc e

-- a service is to go on with its request
abbrev pub Acts : Turn → Type 0
Acts turn = (turn ≡ Serving) ⊎ (turn ≡ Finishing)

finish_next : (tag : ℕ) (back : Finish) (turn : Turn) → Acts turn → turn_after turn (finish_frame tag back).body ≡ Performing → ⊥
finish_next tag (Returns back) turn (inl at) e = value_next back.value (sym (ap (λ (t : Turn). turn_after t (finish_frame tag (Returns back)).body) at) ∙ e)
finish_next tag (Returns back) turn (inr at) e = value_next back.value (sym (ap (λ (t : Turn). turn_after t (finish_frame tag (Returns back)).body) at) ∙ e)
finish_next tag (Forwards forward) turn (inl at) e = let next : AwaitsNext ≡ Performing = sym (ap (λ (t : Turn). turn_after t (finish_frame tag (Forwards forward)).body) at) ∙ e in cc next
finish_next tag (Forwards forward) turn (inr at) e = let next : AwaitsNext ≡ Performing = sym (ap (λ (t : Turn). turn_after t (finish_frame tag (Forwards forward)).body) at) ∙ e in cc next

no_performing : (turn : Turn) → Acts turn → turn ≡ Performing → ⊥
no_performing turn (inl at) was = cc (at, was)
no_performing turn (inr at) was = cc (at, was)

-- its service is done with the request
pub calls_finished : (old new : LifeState) (tag : ℕ) (back : Finish) → Heard (finish_frame tag back) new old → Acts old.turn → calls_of new ≡ calls_of old
calls_finished old new tag back heard acts =
    calls_same old new (ap (λ (l : LifeState). calls_in l.said) heard.made ∙ calls_other old.said (finish_frame tag back) (finish_calls tag back)) (no_performing old.turn acts)
    (λ now. finish_next tag back old.turn acts (sym (ap (λ (l : LifeState). l.turn) heard.made) ∙ now))

-- ---- a call

-- an OP is no RETURN and no FORWARD
no_finish : (n tag : ℕ) (op : Op) → IsFinish n (op_frame tag op) → ⊥
no_finish n tag op (inl (value, code, payload, is)) = let body = ap (λ (g : Frame). g.body) is in cc body
no_finish n tag op (inr (service, payload, is)) = let body = ap (λ (g : Frame). g.body) is in cc body

said_may : (name : List ℕ) (n tag : ℕ) (op : Op) → MaySay name n Serving (op_frame tag op) → may_call op ≡ true
said_may name n tag op (inl finish) = absurd (no_finish n tag op finish)
said_may name n tag op (inr (asked, may, is)) = let body = ap (λ (g : Frame). g.body) is in let same : op ≡ asked = cc body in ap may_call same ∙ may

-- a service asks for one that it may make
pub op_may : (old new : LifeState) (tag : ℕ) (op : Op) → Heard (op_frame tag op) new old → Acts old.turn → (old.turn ≡ Serving) × (may_call op ≡ true)
op_may old new tag op heard (inl at) = (at, said_may old.name (tag_of old) tag op (subst (λ (t : Turn). MaySay old.name (tag_of old) t (op_frame tag op)) at heard.may))
op_may old new tag op heard (inr at) = absurd (no_finish (tag_of old) tag op (subst (λ (t : Turn). MaySay old.name (tag_of old) t (op_frame tag op)) at heard.may))

finish_says : (n : ℕ) (f : Frame) → IsFinish n f → MaySay [] f.tag Serving f
finish_says n f (inl (value, code, payload, is)) = subst (λ (g : Frame). MaySay [] g.tag Serving g) (sym is) (inl (inl (value, code, payload, refl)))
finish_says n f (inr (service, payload, is)) = subst (λ (g : Frame). MaySay [] g.tag Serving g) (sym is) (inl (inr (service, payload, refl)))

-- by any frame that it may say it asks for a call, or is done with its request
pub acting_says : (name : List ℕ) (n : ℕ) (turn : Turn) (f : Frame) → is_acting turn ≡ true → MaySay name n turn f → MaySay [] f.tag Serving f
acting_says name n Serving f acts (inl finish) = finish_says n f finish
acting_says name n Serving f acts (inr (op, may, is)) = subst (λ (g : Frame). MaySay [] g.tag Serving g) (sym is) (inr (op, may, refl))
acting_says name n Finishing f acts finish = finish_says n f finish
acting_says name n AwaitsReady f acts may = absurd (cc acts)
acting_says name n AwaitsNext f acts may = absurd (cc acts)
acting_says name n AwaitsInvoke f acts may = absurd may
acting_says name n Performing f acts may = absurd may
acting_says name n Exited f acts may = absurd may

pub op_asked : (old new : LifeState) (tag : ℕ) (op : Op) → Heard (op_frame tag op) new old → calls_in new.said ≡ calls_in old.said ++ op ∷ []
op_asked old new tag op heard = ap (λ (l : LifeState). calls_in l.said) heard.made ∙ calls_push old.said tag op

-- it is to be made
pub calls_asked : (old new : LifeState) (tag : ℕ) (op : Op) → Heard (op_frame tag op) new old → old.turn ≡ Serving → calls_of new ≡ calls_of old
calls_asked old new tag op heard turn =
    let now : new.turn ≡ Performing = ap (λ (l : LifeState). l.turn) heard.made ∙ ap (λ (t : Turn). turn_after t (op_frame tag op).body) turn in
    let all = op_asked old new tag op heard in
    ap (λ (t : Turn). replied_of t (calls_in new.said)) now ∙ (ap (λ (ops : List Op). take (length ops - 1) ops) all ∙ (but_last_op (calls_in old.said) op ∙ sym (all_made old.turn (calls_in old.said) (λ was. cc (was, turn)))))

-- and made, as its REPLY is due
pub calls_replied : (old new : LifeState) (f : Frame) (link : LinkShows) → new ≡ with_asked f link old → calls_of new ≡ calls_in old.said
calls_replied old new f link made = ap calls_of made
