-- What the link took of the frames that were due.
use Rattle.std.proofs.Common.{◌≡◌, ℕ, List, [], ◌∷◌, ◌++◌, take, Option, Some, None, refl, sym, ◌∙◌, ap, subst}
use Rattle.std.specs.Prelude.{IfSome}
use Rattle.xa_link.specs.Told.{Grew, GrewByPart}
use Rattle.xa_frame.specs.declared.frame.Frame.{Frame}
use Rattle.xa_frame.specs.Spelling.{spelled, all_spelled}
use Rattle.xa_frame.proofs.FrameLemmas.{all_spelled-push}
use Rattle.xa_pipe.specs.Life.{Took}
use Rattle.xa_pipe.specs.declared.turn.Written.TheVariants.{Whole, Cut, Missing}
use Rattle.xa_pipe.proofs.Frames.{told_more}

grown : (took now : Option (List ℕ)) (frames : List Frame) (piece : List ℕ) → IfSome took (Took Whole frames) → Grew took now piece → IfSome now (λ octets. octets ≡ all_spelled frames ++ piece)
grown None now frames piece wrote grew = subst (λ o. IfSome o (λ octets. octets ≡ all_spelled frames ++ piece)) (sym grew) tt
grown (Some octets) now frames piece wrote grew = subst (λ o. IfSome o (λ octets. octets ≡ all_spelled frames ++ piece)) (sym grew) (ap (λ front. front ++ piece) wrote)

-- behind frames that it took it took one more
pub took_more : (took now : Option (List ℕ)) (frames : List Frame) (f : Frame) → IfSome took (Took Whole frames) → Grew took now (spelled f) → IfSome now (Took Whole (frames ++ f ∷ []))
took_more took now frames f wrote grew = told_more now _ _ (λ octets is. is ∙ sym (all_spelled-push frames f)) (grown took now frames (spelled f) wrote grew)

-- or a front of it
pub took_cut : (took now : Option (List ℕ)) (frames : List Frame) (f : Frame) → IfSome took (Took Whole frames) → GrewByPart took now (spelled f) → IfSome now (Took Cut (frames ++ f ∷ []))
took_cut took now frames f wrote (n, short, grew) = told_more now _ _ (λ octets is. (frames, f, n, refl, short, is)) (grown took now frames (take n (spelled f)) wrote grew)

-- or nothing
pub took_missing : (took now : Option (List ℕ)) (frames : List Frame) (f : Frame) → IfSome took (Took Whole frames) → now ≡ took → IfSome now (Took Missing (frames ++ f ∷ []))
took_missing took now frames f wrote same = subst (λ o. IfSome o (Took Missing (frames ++ f ∷ []))) (sym same) (told_more took _ _ (λ octets is. (frames, f, refl, is)) wrote)
