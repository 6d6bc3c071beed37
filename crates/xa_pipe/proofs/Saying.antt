-- What a program has said tells its RETURNs and FORWARDs, and what it may say next.
use Rattle.std.proofs.Common.{◌≡◌, ◌⊎◌, ℕ, ◌+◌, Bool, true, false, List, [], ◌∷◌, ◌++◌, length, inl, inr, refl, sym, ap, subst, ◌∙◌, append_assoc, append-nil, arith}
use Rattle.std.specs.List.{All}
use Rattle.std.proofs.lemmas.List.{length-append}
use Rattle.std.proofs.lemmas.List.Elements.{All-nil, All-cons, All-push}
use Rattle.xa_types.specs.declared.call.Rval.{Rval}
use Rattle.xa_types.specs.declared.call.Rval.TheVariants.{Success, Fail, Exit as ExitValue}
use Rattle.xa_frame.specs.declared.frame.Frame.{Frame}
use Rattle.xa_frame.specs.declared.frame.Body.{Body}
use Rattle.xa_frame.specs.declared.frame.Body.TheVariants.{Next, Op as OpBody}
use Rattle.xa_types.specs.declared.call.Op.{Op}
use Rattle.xa_frame.specs.Spelling.{HasSpelling}
use Rattle.xa_pipe.specs.declared.hearing.Finish.TheVariants.{Returns, Forwards}
use Rattle.xa_pipe.specs.Frames.{next_frame, ready_frame, return_frame, forward_frame, finish_frame, op_frame}
use Rattle.xa_pipe.specs.Life.{Says, Turn, Finish, MaySay, turn_behind, tag_after, finish_of, finishes_in}
use Rattle.xa_pipe.specs.Life.Says.{Silent, Named, Free, Invoked, Calls, Replied, CallsNoMore, Answers, Passes}
use Rattle.xa_pipe.specs.declared.turn.Turn.TheVariants.{AwaitsReady, AwaitsNext, AwaitsInvoke, Serving, Finishing, Performing, Exited}

-- ---- each frame has a spelling

next_spelled : HasSpelling next_frame
next_spelled = record { tag = omega arith; body = tt }

pub all_spelt : {name : List ℕ} {n : ℕ} {frames : List Frame} {turn : Turn} → Says name n frames turn → All HasSpelling frames
all_spelt Silent = All-nil HasSpelling
all_spelt (Named h) = All-cons HasSpelling _ [] h (All-nil HasSpelling)
all_spelt (Free says) = All-push HasSpelling _ _ (all_spelt says) next_spelled
all_spelt (Invoked says) = all_spelt says
all_spelt (Calls op may says h) = All-push HasSpelling _ _ (all_spelt says) h
all_spelt (Replied says) = all_spelt says
all_spelt (CallsNoMore says) = all_spelt says
all_spelt (Answers value code payload says h) = All-push HasSpelling _ _ (all_spelt says) h
all_spelt (Passes service payload says h) = All-push HasSpelling _ _ (all_spelt says) h

-- ---- its RETURNs and FORWARDs

pub finishes_append : (fs gs : List Frame) → finishes_in (fs ++ gs) ≡ finishes_in fs ++ finishes_in gs
finishes_append [] gs = refl
finishes_append (f ∷ fs) gs = ap (λ (rs : List Finish). finish_of f.body ++ rs) (finishes_append fs gs) ∙ sym (append_assoc (finish_of f.body) (finishes_in fs) (finishes_in gs))

-- a frame that is neither adds none
pub finishes_next : (frames : List Frame) → finishes_in (frames ++ next_frame ∷ []) ≡ finishes_in frames
finishes_next frames = finishes_append frames (next_frame ∷ []) ∙ append-nil (finishes_in frames)

pub finishes_op : (frames : List Frame) (tag : ℕ) (op : Op) → finishes_in (frames ++ op_frame tag op ∷ []) ≡ finishes_in frames
finishes_op frames tag op = finishes_append frames (op_frame tag op ∷ []) ∙ append-nil (finishes_in frames)

-- and one that is adds itself
finish_is : (tag : ℕ) (back : Finish) → finish_of (finish_frame tag back).body ≡ back ∷ []
finish_is tag (Returns back) = refl
finish_is tag (Forwards forward) = refl

pub finishes_push : (frames : List Frame) (tag : ℕ) (back : Finish) → finishes_in (frames ++ finish_frame tag back ∷ []) ≡ finishes_in frames ++ back ∷ []
finishes_push frames tag back =
    finishes_append frames (finish_frame tag back ∷ [])
    ∙ ap (λ (rs : List Finish). finishes_in frames ++ rs) (append-nil (finish_of (finish_frame tag back).body) ∙ finish_is tag back)

counted : (n tag : ℕ) (frames : List Frame) (back : Finish) → n ≡ length (finishes_in frames) → n + 1 ≡ length (finishes_in (frames ++ finish_frame tag back ∷ []))
counted n tag frames back is =
    ap (λ (k : ℕ). k + 1) is
    ∙ (sym (length-append (finishes_in frames) (back ∷ [])) ∙ ap length (sym (finishes_push frames tag back)))

-- n counts them
pub returned_is : {name : List ℕ} {n : ℕ} {frames : List Frame} {turn : Turn} → Says name n frames turn → n ≡ length (finishes_in frames)
returned_is Silent = refl
returned_is (Named h) = refl
returned_is (Free {n} {frames} says) = returned_is says ∙ ap length (sym (finishes_next frames))
returned_is (Invoked says) = returned_is says
returned_is (Calls {n} {frames} op may says h) = returned_is says ∙ ap length (sym (finishes_op frames (tag_after n) op))
returned_is (Replied says) = returned_is says
returned_is (CallsNoMore says) = returned_is says
returned_is (Answers {n} {frames} value code payload says h) = counted n (tag_after n) frames (Returns (record { value = value; code = code; payload = payload })) (returned_is says)
returned_is (Passes {n} {frames} service payload says h) = counted n (tag_after n) frames (Forwards (record { service = service; payload = payload })) (returned_is says)

no_finishes : (finishes : List Finish) → 0 ≡ length finishes → finishes ≡ []
no_finishes [] none = refl
no_finishes (back ∷ finishes) none = absurd (omega (arith, none))

-- none was said
pub none_returned : {name : List ℕ} {frames : List Frame} {turn : Turn} → Says name 0 frames turn → finishes_in frames ≡ []
none_returned {name} {frames} says = no_finishes (finishes_in frames) (returned_is says)

-- ---- whose turn it is

abbrev goes_on : Body → Bool
goes_on Next = true
goes_on (OpBody op) = true
goes_on body = false

-- whether the last frame is NEXT or an OP
abbrev ends_free : List Frame → Bool
ends_free [] = false
ends_free (f ∷ []) = goes_on f.body
ends_free (f ∷ g ∷ fs) = ends_free (g ∷ fs)

ends_with : (fs : List Frame) (f : Frame) → ends_free (fs ++ f ∷ []) ≡ goes_on f.body
ends_with [] f = refl
ends_with (g ∷ []) f = refl
ends_with (g ∷ h ∷ fs) f = ends_with (h ∷ fs) f

abbrev is_free : Turn → Bool
is_free AwaitsReady = false
is_free AwaitsNext = false
is_free AwaitsInvoke = true
is_free Serving = true
is_free Finishing = true
is_free Performing = true
is_free Exited = false

behind_return : (value : Rval) → is_free (turn_behind value) ≡ false
behind_return Success = refl
behind_return Fail = refl
behind_return ExitValue = refl

turn_is : {name : List ℕ} {n : ℕ} {frames : List Frame} {turn : Turn} → Says name n frames turn → ends_free frames ≡ is_free turn
turn_is Silent = refl
turn_is (Named h) = refl
turn_is (Free {n} {frames} says) = ends_with frames next_frame
turn_is (Invoked says) = turn_is says
turn_is (Calls {n} {frames} op may says h) = ends_with frames (op_frame (tag_after n) op)
turn_is (Replied says) = turn_is says
turn_is (CallsNoMore says) = turn_is says
turn_is (Answers {n} {frames} value code payload says h) = ends_with frames (return_frame (tag_after n) value code payload) ∙ sym (behind_return value)
turn_is (Passes {n} {frames} service payload says h) = ends_with frames (forward_frame (tag_after n) service payload)

-- ---- what is said next

-- behind those frames the program may say that one
record SaysNext (name : List ℕ) (frames : List Frame) (f : Frame) : Type 0 where
  returned : ℕ
  turn : Turn
  says : Says name returned frames turn
  may : MaySay name (tag_after returned) turn f

-- a list that ends with an element, and is another one and more: that element comes first behind the other, or later
snoc_cases : (fs gs ks : List Frame) (g k : Frame) → fs ++ k ∷ ks ≡ gs ++ g ∷ [] → ((fs ≡ gs) × (k ≡ g)) ⊎ ((rest : List Frame) × (gs ≡ fs ++ k ∷ rest))
snoc_cases [] [] ks g k e = inl (refl, cc e)
snoc_cases [] (h ∷ gs) ks g k e = inr (gs, cc e)
snoc_cases (f ∷ []) [] ks g k e = absurd (cc e)
snoc_cases (f ∷ h ∷ fs) [] ks g k e = absurd (cc e)
snoc_cases (f ∷ fs) (h ∷ gs) ks g k e = below (snoc_cases fs gs ks g k (cc e)) (cc e)
  where
    below : ((fs ≡ gs) × (k ≡ g)) ⊎ ((rest : List Frame) × (gs ≡ fs ++ k ∷ rest)) → f ≡ h → ((f ∷ fs ≡ h ∷ gs) × (k ≡ g)) ⊎ ((rest : List Frame) × (h ∷ gs ≡ f ∷ fs ++ k ∷ rest))
    below (inl (same, is)) first = inl (cc (same, first), is)
    below (inr (rest, more)) first = inr (rest, cc (more, first))

module _ {name : List ℕ} where
  at_end : {n : ℕ} {gs : List Frame} {turn : Turn} (g : Frame) → Says name n gs turn → MaySay name (tag_after n) turn g
      → ((fs ks : List Frame) (k : Frame) → fs ++ k ∷ ks ≡ gs → SaysNext name fs k)
      → (fs ks : List Frame) (k : Frame) → ((fs ≡ gs) × (k ≡ g)) ⊎ ((rest : List Frame) × (gs ≡ fs ++ k ∷ rest)) → SaysNext name fs k
  at_end {n} {gs} {turn} g says may before fs ks k (inl (same, is)) = record {
    returned = n;
    turn = turn;
    says = subst (λ (hs : List Frame). Says name n hs turn) (sym same) says;
    may = subst (λ (f : Frame). MaySay name (tag_after n) turn f) (sym is) may;
  }
  at_end g says may before fs ks k (inr (rest, e)) = before fs rest k (sym e)

  none_before : (fs ks : List Frame) (k : Frame) → fs ++ k ∷ ks ≡ [] → SaysNext name fs k
  none_before [] ks k e = absurd (cc e)
  none_before (f ∷ fs) ks k e = absurd (cc e)

  next_at : {n : ℕ} {frames : List Frame} {turn : Turn} → Says name n frames turn → (fs ks : List Frame) (k : Frame) → fs ++ k ∷ ks ≡ frames → SaysNext name fs k
  next_at Silent fs ks k e = none_before fs ks k e
  next_at (Named h) fs ks k e = at_end (ready_frame name) Silent refl none_before fs ks k (snoc_cases fs [] ks (ready_frame name) k e)
  next_at (Free {n} {frames} says) fs ks k e = at_end next_frame says refl (next_at says) fs ks k (snoc_cases fs frames ks next_frame k e)
  next_at (Invoked says) fs ks k e = next_at says fs ks k e
  next_at (Calls {n} {frames} op may says h) fs ks k e = at_end (op_frame (tag_after n) op) says (inr (op, may, refl)) (next_at says) fs ks k (snoc_cases fs frames ks _ k e)
  next_at (Replied says) fs ks k e = next_at says fs ks k e
  next_at (CallsNoMore says) fs ks k e = next_at says fs ks k e
  next_at (Answers {n} {frames} value code payload says h) fs ks k e =
      at_end (return_frame (tag_after n) value code payload) says (inl (value, code, payload, refl)) (next_at says) fs ks k (snoc_cases fs frames ks _ k e)
  next_at (Passes {n} {frames} service payload says h) fs ks k e =
      at_end (forward_frame (tag_after n) service payload) says (inr (service, payload, refl)) (next_at says) fs ks k (snoc_cases fs frames ks _ k e)

module _ (name : List ℕ) where
  serves : (n m : ℕ) (turn : Turn) (k : Frame) → n ≡ m → is_free turn ≡ true → MaySay name (tag_after m) turn k → MaySay name (tag_after n) Serving k
  serves n m AwaitsReady k same free may = absurd (cc free)
  serves n m AwaitsNext k same free may = absurd (cc free)
  serves n m AwaitsInvoke k same free may = absurd may
  serves n m Serving k same free may = subst (λ (i : ℕ). MaySay name (tag_after i) Serving k) (sym same) may
  serves n m Finishing k same free may = subst (λ (i : ℕ). MaySay name (tag_after i) Serving k) (sym same) (inl may)
  serves n m Performing k same free may = absurd may
  serves n m Exited k same free may = absurd (cc free)

  -- behind an INVOKE or a REPLY comes an OP, or its RETURN or its FORWARD
  pub answers_next : (n whole : ℕ) (fs ks : List Frame) (k : Frame) (turn : Turn) → Says name n fs Serving → Says name whole (fs ++ k ∷ ks) turn → MaySay name (tag_after n) Serving k
  answers_next n whole fs ks k turn here says =
      let next = next_at says fs ks k refl in
      serves n next.returned next.turn k (returned_is here ∙ sym (returned_is next.says)) (sym (turn_is next.says) ∙ turn_is here) next.may
