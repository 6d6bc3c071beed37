-- What a tpgetrply comes to, from what its looks found.
use Rattle.std.proofs.Common.{◌≡◌, ℕ, zero, suc, ◌<◌, ◌++◌, ◌∷◌, [], Bool, List, length, map, Option, Some, inl, inr, refl, sym, ◌∙◌, ap, subst}
use Rattle.std.specs.Prelude.{slice_get}
use Rattle.std.specs.List.{position}
use Rattle.xa_types.specs.declared.data.Kind.{Kind}
use Rattle.xa_cell.specs.declared.tokens.Seat.{Seat}
use Rattle.xa_cell.specs.Known.{known}
use Rattle.xa_cell.specs.Changes.{looked}
use Rattle.xa_caller.specs.declared.cargo.Filling.{Filling}
use Rattle.xa_caller.specs.declared.phase.Open.{Open}
use Rattle.xa_caller.specs.declared.outcomes.Step.{Step}
use Rattle.xa_caller.specs.Descriptors.{StandsAt, is_at}
use Rattle.xa_caller.specs.Phases.{request_of}
use Rattle.xa_caller.specs.Caller.{CallerState}
use Rattle.xa_caller.specs.Getting.{after_pending, ComesAt, FetchesAt, PendsAs, RepliesAs, AnyAs}
use Rattle.xa_caller.proofs.Standing.{parts_at, same_at, numbered_so}

pub stood_get : (all : List Open) (n : ℕ) (o : Open) → StandsAt n o all → slice_get all n ≡ Some o
stood_get all n o s = subst (λ (l : List Open). slice_get l n ≡ Some o) (sym s.is) (subst (λ k. slice_get (s.front ++ o ∷ s.back) k ≡ Some o) s.before (go s.front s.back o))
  where
    go : (front back : List Open) (o : Open) → slice_get (front ++ o ∷ back) (length front) ≡ Some o
    go [] back o = refl
    go (x ∷ front) back o = go front back o

module _ (op descriptor : ℕ) (expect : Option Kind) (no_block : Bool) (old : CallerState) (t : Seat Filling) (place : ℕ) (found : position (is_at descriptor) old.out ≡ Some place) (o : Open) (its : slice_get old.out place ≡ Some o) where
  pub replies_come : known t ≡ looked o.place.cell 0 (known old.seat) → (r : Step) (new : CallerState) → FetchesAt op expect place r new (record old { seat = t }) → RepliesAs op descriptor expect no_block r new old
  replies_come looks r new f =
      let there = stood_get old.out place f.0 f.1 in
      let same : f.0 ≡ o = same_at old.out place f.0 o there its in
      inr (f.1.front, f.0, f.1.back, f.1.is, numbered_so old.out descriptor place f.0 found there, inl (record { was = f.1.is; seat = t; view = looks ∙ ap (λ (z : Open). looked z.place.cell 0 (known old.seat)) (sym same); fetches = f.2 }))

  pub replies_pending : known t ≡ looked o.place.cell 1 (known old.seat) → (r : Step) (new : CallerState) → PendsAs op no_block (o.request ∷ []) r new (record old { seat = t }) → RepliesAs op descriptor expect no_block r new old
  replies_pending looks r new p =
      let stood = parts_at old.out place o its in
      inr (stood.front, o, stood.back, stood.is, numbered_so old.out descriptor place o found its, inr (record { seat = t; view = looks; pends = p }))

-- of any
module _ (op : ℕ) (expect : Option Kind) (no_block : Bool) (old : CallerState) (t : Seat Filling) where
  pub any_comes : (place : ℕ) → ComesAt place old.out (known old.seat) (known t) → (r : Step) (new : CallerState) → FetchesAt op expect place r new (record old { seat = t }) → AnyAs op expect no_block r new old
  any_comes place comes r new f =
      let o : Open = comes.sent in
      let same : f.0 ≡ o = same_at old.out place f.0 o (stood_get old.out place f.0 f.1) (stood_get old.out place o comes.stood) in
      let fronts : f.1.front ≡ comes.stood.front = one_front f.1.front comes.stood.front f.1.back comes.stood.back f.0 o (sym f.1.is ∙ comes.stood.is) (f.1.before ∙ sym comes.stood.before) in
      inr (inl (
        f.1.front,
        f.0,
        f.1.back,
        record {
          was = f.1.is;
          seat = t;
          view = comes.view ∙ ap (λ (z : Open). looked z.place.cell 0 (after_pending comes.stood.front (known old.seat))) (sym same) ∙ ap (λ (l : List Open). looked f.0.place.cell 0 (after_pending l (known old.seat))) (sym fronts);
          fetches = f.2;
        },
      ))
    where
      one_front : (l m k n : List Open) (a b : Open) → l ++ a ∷ k ≡ m ++ b ∷ n → length l ≡ length m → l ≡ m
      one_front [] [] k n a b is count = refl
      one_front [] (y ∷ m) k n a b is count = absurd (cc count)
      one_front (x ∷ l) [] k n a b is count = absurd (cc count)
      one_front (x ∷ l) (y ∷ m) k n a b is count =
          let rest = one_front l m k n a b (ap tail_of is) (ap pred_of count) in
          ap (λ (z : Open). z ∷ l) (cc is) ∙ ap (λ (z : List Open). y ∷ z) rest
        where
          tail_of : List Open → List Open
          tail_of [] = []
          tail_of (z ∷ zs) = zs

          pred_of : ℕ → ℕ
          pred_of zero = zero
          pred_of (suc n) = n

  pub any_pends : 0 < length old.out → known t ≡ after_pending old.out (known old.seat) → (r : Step) (new : CallerState) → PendsAs op no_block (map request_of old.out) r new (record old { seat = t }) → AnyAs op expect no_block r new old
  any_pends some looks r new p = inr (inr (some, record { seat = t; view = looks; pends = p }))
