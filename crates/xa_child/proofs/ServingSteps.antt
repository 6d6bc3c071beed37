-- Taking frames one after another.
use Rattle.std.proofs.Common.{◌≡◌, ℕ, ◌+◌, ◌-◌, ◌<◌, ◌^◌, min, ◌&&◌, Bool, true, false, List, [], ◌∷◌, ◌++◌, append_assoc, length, length-append, Option, Some, None, Result, Ok, Err, IfOk, inr, refl, sym, ◌∙◌, ap, subst, arith}
use Rattle.std.proofs.lemmas.List.Elements.{All-nil, All-cons, All-append}
use Rattle.xa_types.specs.declared.memory.NoMemory.{NoMemory}
use Rattle.xa_frame.specs.declared.frame.Frame.{Frame}
use Rattle.xa_frame.specs.Spelling.{spelled, all_spelled, HasSpelling}
use Rattle.xa_frame.specs.Reader.{Took}
use Rattle.xa_child.specs.declared.serving.Serving.{Serving}
use Rattle.xa_child.specs.declared.serving.Halt.{Halt}
use Rattle.xa_child.specs.Child.{ChildState, admits, after, after_all, answer, said}
use Rattle.xa_child.specs.Work.{place_after}
use Rattle.xa_child.specs.Serving.{HaltsAt, StepsTo, Answers, Takes, TakesUpTo}
use Rattle.xa_frame.proofs.FrameLemmas.{all_spelled-append, all_spelled-push}
use Rattle.xa_child.proofs.Frames.{admits_all-append, after_all-append, said-append, said-one}

-- these frames were taken so far
pub record Taken (old new : Serving) (due : List ℕ) : Type 0 where
  pub frames : List Frame
  pub takes : Takes old new due frames new.reader.rest
  pub place : min new.reader.place (2 ^ 64 - 1) ≡ place_after old.reader.place (all_spelled frames)

pub taken_none : (old : Serving) (due : List ℕ) → due ≡ [] → Taken old old due
taken_none old due none = record {
  frames = [];
  takes = record { spelling = All-nil HasSpelling; admitted = refl; whole = refl; child = refl; says = none };
  place = omega arith;
}

and_both : (a b : Bool) → a ≡ true → b ≡ true → (a && (b && true)) ≡ true
and_both a b h k = rw h (rw k refl)

pub taken_more : (old mid new : Serving) (due due_now : List ℕ) → Taken old mid due → StepsTo mid new due due_now None → Taken old new due_now
taken_more old mid new due due_now t step =
    let s = old.child in
    let fs = t.frames in
    let f = step.0 in
    let one = step.1 in
    let yes : admits (after_all s fs) f ≡ true = subst (λ z. admits z f ≡ true) t.takes.child one.admitted in
    let push = all_spelled-push fs f in
    let size : length (all_spelled (fs ++ f ∷ [])) ≡ length (all_spelled fs) + length (spelled f) = ap length push ∙ length-append (all_spelled fs) (spelled f) in
    record {
      frames = fs ++ f ∷ [];
      takes = record {
        spelling = All-append HasSpelling fs (f ∷ []) t.takes.spelling (All-cons HasSpelling f [] one.took.begins.spelling (All-nil HasSpelling));
        admitted = admits_all-append s fs (f ∷ []) ∙ and_both _ _ t.takes.admitted yes;
        whole = t.takes.whole ∙ (ap (λ z. all_spelled fs ++ z) one.took.begins.whole ∙ (sym (append_assoc (all_spelled fs) (spelled f) new.reader.rest) ∙ ap (λ z. z ++ new.reader.rest) (sym push)));
        child = one.child ∙ (ap (λ z. after z f) t.takes.child ∙ sym (after_all-append s fs (f ∷ [])));
        says = one.adds ∙ (ap (λ (c : ChildState). due ++ all_spelled (answer c f)) t.takes.child ∙ (ap (λ z. z ++ all_spelled (answer (after_all s fs) f)) t.takes.says ∙ (sym (all_spelled-append (said s fs) (answer (after_all s fs) f)) ∙ ap all_spelled (ap (λ z. said s fs ++ z) (sym (said-one (after_all s fs) f yes)) ∙ sym (said-append s fs (f ∷ []) t.takes.admitted)))));
      };
      place = omega (arith, t.place, one.took.place, size);
    }

pub taken_all : (old mid new : Serving) (due due_now : List ℕ) (halt : Halt) → Taken old mid due → StepsTo mid new due due_now (Some halt) → mid.reader.place < 2 ^ 64 → TakesUpTo old new due_now halt
taken_all old mid new due due_now halt t step low = record {
  frames = t.frames;
  rest = mid.reader.rest;
  takes = record {
    spelling = t.takes.spelling;
    admitted = t.takes.admitted;
    whole = t.takes.whole;
    child = step.1 ∙ t.takes.child;
    says = step.0 ∙ t.takes.says;
  };
  halts = subst (λ p. HaltsAt new.child p mid.reader.rest new.reader halt) (omega (arith, t.place)) (subst (λ s. HaltsAt s mid.reader.place mid.reader.rest new.reader halt) (sym step.1) step.2);
}

-- what answers a frame that was read is a step
pub answers_step : (old mid new : Serving) (f : Frame) (due due_now : List ℕ) (turn : Result (Option Halt) NoMemory) → old.child.ended ≡ false → Took old.reader mid.reader f → mid.child ≡ old.child → new.reader ≡ mid.reader → IfOk turn (λ t. Answers mid.child new.child due due_now old.reader.place f t) → IfOk turn (λ t. StepsTo old new due due_now t)
answers_step old mid new f due due_now (Ok None) going took child same h = (
  f,
  record {
    took = subst (λ r. Took old.reader r f) (sym same) took;
    admitted = subst (λ s. admits s f ≡ true) child h.0;
    child = h.1 ∙ ap (λ s. after s f) child;
    adds = h.2 ∙ ap (λ s. due ++ all_spelled (answer s f)) child;
  },
)
answers_step old mid new f due due_now (Ok (Some halt)) going took child same h =
    (h.2, h.1 ∙ child, subst (HaltsAt old.child old.reader.place old.reader.rest new.reader) (sym h.3) (going, refl, inr (f, mid.reader.rest, took.begins, subst (λ s. admits s f ≡ false) child h.0)))
answers_step old mid new f due due_now (Err e) going took child same h = tt
