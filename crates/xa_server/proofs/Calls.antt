-- What each call of a seat leaves of what was taken and filled, by what its contract says of the view.
use Rattle.std.proofs.Common.{◌≡◌, ℕ, zero, suc, ◌-◌, ◌<◌, ◌≤◌, List, [], ◌∷◌, length, set, refl, sym, ap, ◌∙◌, subst, arith, ⊎_elim}
use Rattle.xa_caller.specs.xa_types.declared.ids.RequestId.{RequestId}
use Rattle.xa_caller.specs.xa_events.Homes.{Home}
use Rattle.xa_caller.specs.xa_stamp.declared.home.Stamped.{Stamped}
use Rattle.xa_caller.specs.xa_cell.declared.cells.Cells.{Cells}
use Rattle.xa_caller.specs.xa_cell.declared.filler.Filled.{Filled}
use Rattle.xa_caller.specs.xa_cell.declared.filler.Filled.TheVariants.{Delivered, Dropped}
use Rattle.xa_caller.specs.xa_cell.declared.owner.Cancelled.{Cancelled}
use Rattle.xa_caller.specs.xa_cell.declared.owner.Cancelled.TheVariants.{Under, Came}
use Rattle.xa_caller.specs.xa_cell.declared.tokens.Place.{Place}
use Rattle.xa_caller.specs.xa_cell.declared.tokens.Seat.{Seat}
use Rattle.xa_caller.specs.xa_cell.declared.tokens.Ticket.{Ticket}
use Rattle.xa_caller.specs.xa_cell.declared.view.Opening.{Opening}
use Rattle.xa_caller.specs.xa_cell.declared.view.Part.{Part}
use Rattle.xa_caller.specs.xa_cell.declared.view.View.{View}
use Rattle.xa_caller.specs.xa_cell.Calls.{after_looks, Began, AllTaken, TookAs, CancelledAs, FilledAs}
use Rattle.xa_caller.specs.xa_cell.Changes.{looked, filled, dropped}
use Rattle.xa_caller.specs.xa_cell.Growing.{Keeps, TakesMore, CancelTakes}
use Rattle.xa_caller.specs.xa_cell.Known.{known, named}
use Rattle.xa_caller.specs.xa_cell.Views.{nth, at, fill}
use Rattle.xa_caller.proofs.xa_cell.Growing.{keeps_trans, looked_keeps, opened_keeps, cancelled_keeps, dropped_keeps, looks_keep, took_more, filled_more, more_behind}
use Rattle.xa_caller.proofs.xa_cell.Lists.{below}
use Rattle.xa_caller.specs.declared.cargo.Filling.{Filling}
use Rattle.xa_server.specs.Growing.{Grows}
use Rattle.xa_server.specs.Fillings.{HasEnd, AllEnded}
use Rattle.xa_server.proofs.Ends.{ends_kept, ends_filling}
use Rattle.xa_server.proofs.Growth.{keeps_grows, fills_grows}

module _ {A : Type 0} where
  -- a place is open only at a cell that the view has
  inside : (ps : List (Part A)) (k : ℕ) (q : RequestId) → (nth ps k).asked ≡ q ∷ [] → k < length ps
  inside [] k q e = cc e
  inside (p ∷ ps) zero q e = omega arith
  inside (p ∷ ps) (suc k) q e = let r = inside ps k q e in omega arith

  -- a part past the last isn't put
  set_past : (ps : List (Part A)) (k : ℕ) (p : Part A) → length ps ≤ k → set ps k p ≡ ps
  set_past [] k p le = refl
  set_past (x ∷ ps) zero p le = absurd (omega (arith, le))
  set_past (x ∷ ps) (suc k) p le = ap (λ l. x ∷ l) (set_past ps k p (omega (arith, le)))

  asked_same : (ps : List (Part A)) (k : ℕ) (p : Part A) → p.asked ≡ (nth ps k).asked → (nth (set ps k p) k).asked ≡ (nth ps k).asked
  asked_same [] k p e = refl
  asked_same (x ∷ ps) zero p e = e
  asked_same (x ∷ ps) (suc k) p e = asked_same ps k p e

  pub asked_looked : (k u : ℕ) (v : View A) → (at k (looked k u v)).asked ≡ (at k v).asked
  asked_looked k u v = asked_same v.parts k (record (at k v) { settled = 1 - u }) refl

  pub began_keeps : (cells : Cells A) (q : RequestId) (s s' : Seat A) (place : Place) (t : Ticket A) → Began cells q s s' place t → Keeps (known s) (known s')
  began_keeps cells q s s' place t b =
      let v : View A = known s in let k : ℕ = place.cell in let after : View A = after_looks s.first b.unspent v in
      subst (Keeps v) (sym b.view) (keeps_trans _ _ _ (looks_keep s.first b.unspent v) (keeps_trans _ _ _ (looked_keeps k 0 after) (opened_keeps k q (looked k 0 after))))

  pub full_keeps : (s s' : Seat A) → AllTaken s s' → Keeps (known s) (known s')
  full_keeps s s' b = subst (Keeps (known s)) (sym b.view) (looks_keep s.first b.unspent (known s))

  pub took_is_more : (k : ℕ) (a : A) (v w : View A) → TookAs k a v w → TakesMore k a v w
  took_is_more k a v w h = took_more k a v w (inside v.parts k h.0 h.1) h

  pub cancel_is_more : (k : ℕ) (v w : View A) (answer : Cancelled A) → CancelledAs k v w answer → CancelTakes k v w answer
  cancel_is_more k v w Under h = subst (Keeps v) (sym h.2) (keeps_trans _ _ _ (looked_keeps k h.0 v) (cancelled_keeps k (looked k h.0 v)))
  cancel_is_more k v w (Came a) h =
      let seen : View A = looked k h.0 v in let again : View A = looked k 0 seen in
      more_behind k a v again w (asked_looked k 0 seen ∙ asked_looked k h.0 v) (keeps_trans _ _ _ (looked_keeps k h.0 v) (looked_keeps k 0 seen)) (took_is_more k a again w h.2)

  past_keeps : (v : View A) (k : ℕ) (o : Opening) (a : A) → length v.parts ≤ k → Keeps v (filled k o a v)
  past_keeps v k o a le =
      let same : (filled k o a v).parts ≡ v.parts = set_past v.parts k _ le in
      record { each = λ j. record { taken = ap (λ (ps : List (Part A)). (nth ps j).taken) same; filled = ap (λ (ps : List (Part A)). (nth ps j).filled) same } }

  pub fill_grows : (t : Ticket A) (a : A) (v w : View A) (answer : Filled A) → FilledAs t a v w answer → Grows v w
  fill_grows t a v w Delivered h = subst (Grows v) (sym h.2) (⊎_elim (λ (lt : t.cell < length v.parts). fills_grows t.cell h.0 a v (filled t.cell h.0 a v) (filled_more t.cell h.0 a v lt))
      (λ (le : length v.parts ≤ t.cell). keeps_grows v (filled t.cell h.0 a v) (past_keeps v t.cell h.0 a le)) (below t.cell (length v.parts)))
  fill_grows t a v w (Dropped b) h = subst (Grows v) (sym h.2.1) (keeps_grows v (dropped t.cell h.0 v) (dropped_keeps t.cell h.0 v))

pub fill_ends : (entries : Home → List Stamped) (t : Ticket Filling) (a : Filling) (v w : View Filling) (answer : Filled Filling) → FilledAs t a v w answer → ((o : Opening) → named t ≡ o ∷ [] → HasEnd entries (fill o a)) → AllEnded entries v → AllEnded entries w
fill_ends entries t a v w Delivered h end e = subst (AllEnded entries) (sym h.2) (⊎_elim (λ (lt : t.cell < length v.parts). ends_filling entries t.cell h.0 a v (filled t.cell h.0 a v) (filled_more t.cell h.0 a v lt) (end h.0 h.1) e)
    (λ (le : length v.parts ≤ t.cell). ends_kept entries v (filled t.cell h.0 a v) (past_keeps v t.cell h.0 a le) e) (below t.cell (length v.parts)))
fill_ends entries t a v w (Dropped b) h end e = subst (AllEnded entries) (sym h.2.1) (ends_kept entries v (dropped t.cell h.0 v) (dropped_keeps t.cell h.0 v) e)
