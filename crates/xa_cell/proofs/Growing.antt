-- What each change of a view leaves of what was taken and filled.
use Rattle.std.proofs.Common.{◌≡◌, ◌≢◌, ℕ, zero, suc, ◌+◌, ◌-◌, ◌<◌, List, [], ◌∷◌, ◌++◌, length, set, sym, refl, ap, ◌∙◌, subst, arith, ⊎_elim}
use Rattle.xa_types.specs.declared.ids.RequestId.{RequestId}
use Rattle.xa_cell.specs.declared.filler.Filled.{Filled}
use Rattle.xa_cell.specs.declared.filler.Filled.TheVariants.{Delivered, Dropped}
use Rattle.xa_cell.specs.declared.owner.Cancelled.{Cancelled}
use Rattle.xa_cell.specs.declared.owner.Cancelled.TheVariants.{Under, Came}
use Rattle.xa_cell.specs.declared.owner.Look.{Look}
use Rattle.xa_cell.specs.declared.owner.Look.TheVariants.{Pending, Come}
use Rattle.xa_cell.specs.declared.tokens.Seat.{Seat}
use Rattle.xa_cell.specs.declared.tokens.Ticket.{Ticket}
use Rattle.xa_cell.specs.declared.view.Deed.{Deed}
use Rattle.xa_cell.specs.declared.view.Fill.{Fill}
use Rattle.xa_cell.specs.declared.view.Opening.{Opening}
use Rattle.xa_cell.specs.declared.view.Part.{Part}
use Rattle.xa_cell.specs.declared.view.View.{View}
use Rattle.xa_cell.specs.Views.{nth, at, opening, fill}
use Rattle.xa_cell.specs.Changes.{looked, opened, took, cancelled, withdrawn, filled, dropped}
use Rattle.xa_cell.specs.Known.{known}
use Rattle.xa_cell.specs.Calls.{after_looks, LookedAs, TookAs, CancelledAs, FilledAs}
use Rattle.xa_cell.specs.Growing.{KeepsAt, Keeps, TakesMore, FillsMore, CancelTakes, FillAdds}
use Rattle.xa_cell.proofs.Lists.{decided}
use Rattle.xa_cell.proofs.Lifting.{viewed}
use Rattle.xa_cell.proofs.Viewed.{put_is, put_else}

module _ {A : Type 0} where
  -- a part that differs from the one that stood there in nothing that f reads
  read_same : {X : Type 0} (f : Part A → X) (ps : List (Part A)) (k : ℕ) (p : Part A) → f p ≡ f (nth ps k) → (j : ℕ) → f (nth (set ps k p) j) ≡ f (nth ps j)
  read_same f [] k p e j = refl
  read_same f (x ∷ xs) zero p e zero = e
  read_same f (x ∷ xs) zero p e (suc j) = refl
  read_same f (x ∷ xs) (suc k) p e zero = refl
  read_same f (x ∷ xs) (suc k) p e (suc j) = read_same f xs k p e j

  put_keeps : (v : View A) (k : ℕ) (p : Part A) (ds : List Deed) → p.taken ≡ (at k v).taken → p.filled ≡ (at k v).filled → Keeps v (viewed v k p ds)
  put_keeps v k p ds taken filled = record {
    each = λ j. record { taken = read_same (λ (q : Part A). q.taken) v.parts k p taken j; filled = read_same (λ (q : Part A). q.filled) v.parts k p filled j };
  }

  pub keeps_refl : (v : View A) → Keeps v v
  keeps_refl v = record { each = λ k. record { taken = refl; filled = refl } }

  pub keeps_trans : (u v w : View A) → Keeps u v → Keeps v w → Keeps u w
  keeps_trans u v w h g = record { each = λ k. record { taken = (g.each k).taken ∙ (h.each k).taken; filled = (g.each k).filled ∙ (h.each k).filled } }

  keeps_same : (v w : View A) (j : ℕ) → at j w ≡ at j v → KeepsAt j v w
  keeps_same v w j e = record { taken = ap (λ (q : Part A). q.taken) e; filled = ap (λ (q : Part A). q.filled) e }

  pub looked_keeps : (k u : ℕ) (v : View A) → Keeps v (looked k u v)
  looked_keeps k u v = put_keeps v k (record (at k v) { settled = 1 - u }) (looked k u v).deeds refl refl

  pub opened_keeps : (k : ℕ) (q : RequestId) (v : View A) → Keeps v (opened k q v)
  opened_keeps k q v = put_keeps v k (record (at k v) { count = (at k v).count + 1; asked = q ∷ []; settled = 0 }) (opened k q v).deeds refl refl

  pub cancelled_keeps : (k : ℕ) (v : View A) → Keeps v (cancelled k v)
  cancelled_keeps k v = put_keeps v k (record (at k v) { asked = []; settled = 0; given_up = (at k v).given_up ++ (at k v).count ∷ [] }) (cancelled k v).deeds refl refl

  pub withdrawn_keeps : (k : ℕ) (v : View A) → Keeps v (withdrawn k v)
  withdrawn_keeps k v = put_keeps v k (record (at k v) { asked = []; settled = 1 }) (withdrawn k v).deeds refl refl

  pub dropped_keeps : (k : ℕ) (o : Opening) (v : View A) → Keeps v (dropped k o v)
  dropped_keeps k o v = put_keeps v k (record (at k v) { dropped = (at k v).dropped ++ o.number ∷ [] }) (dropped k o v).deeds refl refl

  pub looks_keep : (k : ℕ) (us : List ℕ) (v : View A) → Keeps v (after_looks k us v)
  looks_keep k [] v = keeps_refl v
  looks_keep k (u ∷ us) v = keeps_trans v (looked k u v) (after_looks (suc k) us (looked k u v)) (looked_keeps k u v) (looks_keep (suc k) us (looked k u v))

  -- a look, whatever it found
  pub look_keeps : (k : ℕ) (v w : View A) (look : Look) → LookedAs k v w look → Keeps v w
  look_keeps k v w Pending h = subst (Keeps v) (sym h) (looked_keeps k 1 v)
  look_keeps k v w Come h = subst (Keeps v) (sym h.0) (looked_keeps k 0 v)

  -- an answer that was taken, at a cell that the view has
  pub took_more : (k : ℕ) (a : A) (v w : View A) → k < length v.parts → TookAs k a v w → TakesMore k a v w
  took_more k a v w long h =
      let o : Opening = opening (at k v).count h.0 in
      let p : Part A = record (at k v) { asked = []; settled = 1; taken = (at k v).taken ++ (record { opening = o; answer = a }) ∷ [] } in
      let here : at k w ≡ p = ap (at k) h.2 ∙ put_is v k p v.deeds long in record {
        opening = o;
        asked = h.1;
        taken = ap (λ (q : Part A). q.taken) here;
        filled = ap (λ (q : Part A). q.filled) here;
        others = λ j ne. keeps_same v w j (ap (at j) h.2 ∙ put_else v k p v.deeds j ne);
      }

  -- an answer that was filled, at a cell that the view has
  pub filled_more : (k : ℕ) (o : Opening) (a : A) (v : View A) → k < length v.parts → FillsMore k o a v (filled k o a v)
  filled_more k o a v long =
      let p : Part A = record (at k v) { filled = (at k v).filled ++ (record { opening = o; answer = a }) ∷ [] } in
      let here : at k (filled k o a v) ≡ p = put_is v k p (filled k o a v).deeds long in record {
        filled = ap (λ (q : Part A). q.filled) here;
        taken = ap (λ (q : Part A). q.taken) here;
        others = λ j ne. keeps_same v (filled k o a v) j (put_else v k p (filled k o a v).deeds j ne);
      }

  -- what was taken behind a call that keeps all
  pub more_behind : (k : ℕ) (a : A) (u v w : View A) → (at k v).asked ≡ (at k u).asked → Keeps u v → TakesMore k a v w → TakesMore k a u w
  more_behind k a u v w asked h t = record {
    opening = t.opening;
    asked = sym asked ∙ t.asked;
    taken = t.taken ∙ ap (λ (l : List (Fill A)). l ++ fill t.opening a ∷ []) (h.each k).taken;
    filled = t.filled ∙ (h.each k).filled;
    others = λ j ne. record { taken = (t.others j ne).taken ∙ (h.each j).taken; filled = (t.others j ne).filled ∙ (h.each j).filled };
  }
