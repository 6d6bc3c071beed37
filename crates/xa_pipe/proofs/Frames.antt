-- Frames, one after another, and what was read of them.
use Rattle.std.proofs.Common.{◌≡◌, ℕ, ◌+◌, ◌-◌, ◌^◌, List, [], ◌∷◌, ◌++◌, length, Option, Some, None, sym, ◌∙◌, ap, subst, append_assoc, arith}
use Rattle.std.specs.Prelude.{IfSome, min}
use Rattle.std.proofs.lemmas.List.{length-append}
use Rattle.xa_link.specs.Told.{Empty}
use Rattle.xa_frame.specs.declared.frame.Frame.{Frame}
use Rattle.xa_frame.specs.Spelling.{spelled, all_spelled}
use Rattle.xa_frame.proofs.FrameLemmas.{all_spelled-push}
use Rattle.xa_pipe.specs.Life.{place_behind}
use Rattle.xa_pipe.specs.Pipe.{Piped, HasRead}

-- what is told of octets, of which more follows
pub told_more : (told : Option (List ℕ)) (is so : List ℕ → Type 0) → ((octets : List ℕ) → is octets → so octets) → IfSome told is → IfSome told so
told_more None is so follows h = tt
told_more (Some octets) is so follows h = follows octets h

capped : (a b c : ℕ) → c ≡ a + b → min (min a (2 ^ 64 - 1) + b) (2 ^ 64 - 1) ≡ min c (2 ^ 64 - 1)
capped a b c e = omega (arith, e)

pub place-push : (frames : List Frame) (f : Frame) → min (place_behind frames + length (spelled f)) (2 ^ 64 - 1) ≡ place_behind (frames ++ f ∷ [])
place-push frames f =
    capped (length (all_spelled frames)) (length (spelled f)) (length (all_spelled (frames ++ f ∷ [])))
    (ap length (all_spelled-push frames f) ∙ length-append (all_spelled frames) (spelled f))

read_here : (octets before after : List ℕ) (frames : List Frame) (f : Frame) → before ≡ spelled f ++ after → octets ≡ all_spelled frames ++ before → octets ≡ all_spelled (frames ++ f ∷ []) ++ after
read_here octets before after frames f stood read =
    (read ∙ ap (λ rest. all_spelled frames ++ rest) stood) ∙ (sym (append_assoc (all_spelled frames) (spelled f) after) ∙ ap (λ front. front ++ after) (sym (all_spelled-push frames f)))

-- nothing was read yet
pub read_none : (pipe : Piped) → Empty pipe.gave → pipe.rest ≡ [] → pipe.place ≡ 0 → HasRead pipe []
read_none pipe none rest place = record {
  told = told_more pipe.gave _ _ (λ octets e. e ∙ sym rest) none;
  place = place;
}

-- one more frame was read
pub read_more : (old new : Piped) (frames : List Frame) (f : Frame) → new.gave ≡ old.gave → old.rest ≡ spelled f ++ new.rest → new.place ≡ min (old.place + length (spelled f)) (2 ^ 64 - 1)
    → HasRead old frames → HasRead new (frames ++ f ∷ [])
read_more old new frames f same stood moved read = record {
  told = subst (λ (gave : Option (List ℕ)). IfSome gave (λ octets. octets ≡ all_spelled (frames ++ f ∷ []) ++ new.rest)) (sym same)
      (told_more old.gave _ _ (λ octets. read_here octets old.rest new.rest frames f stood) read.told);
  place = moved ∙ (ap (λ (place : ℕ). min (place + length (spelled f)) (2 ^ 64 - 1)) read.place ∙ place-push frames f);
}

-- what was read stays so where nothing more was
pub read_same : (old new : Piped) (frames : List Frame) → new.gave ≡ old.gave → new.rest ≡ old.rest → new.place ≡ old.place → HasRead old frames → HasRead new frames
read_same old new frames gave rest place read = record {
  told = subst (λ (xs : List ℕ). IfSome new.gave (λ octets. octets ≡ all_spelled frames ++ xs)) (sym rest)
      (subst (λ (told : Option (List ℕ)). IfSome told (λ octets. octets ≡ all_spelled frames ++ old.rest)) (sym gave) read.told);
  place = place ∙ read.place;
}
