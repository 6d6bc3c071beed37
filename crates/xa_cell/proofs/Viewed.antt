-- A view with another part of one cell: what it keeps.
use Rattle.std.proofs.Common.{◌≡◌, ◌≢◌, ℕ, ◌+◌, ◌-◌, ◌<◌, ◌≤◌, List, [], ◌∷◌, ◌++◌, length, set, sym, refl, ap, ◌∙◌, subst, arith, length-set, ⊎_elim}
use Rattle.xa_types.specs.declared.ids.RequestId.{RequestId}
use Rattle.xa_cell.specs.declared.view.Opening.{Opening}
use Rattle.xa_cell.specs.declared.view.Deed.{Deed}
use Rattle.xa_cell.specs.declared.view.Part.{Part}
use Rattle.xa_cell.specs.declared.view.View.{View}
use Rattle.xa_cell.specs.Views.{nth, at}
use Rattle.xa_cell.specs.Changes.{looked, opened, took, cancelled, withdrawn, filled, dropped}
use Rattle.xa_cell.specs.Places.{StandsAt, Stand, Shuts}
use Rattle.xa_cell.specs.Rule.{owns}
use Rattle.xa_cell.specs.Tokens.{IsCalm, IsCaller}
use Rattle.xa_cell.proofs.Lists.{decided, nth_set, nth_else, set_twice}
use Rattle.xa_cell.proofs.Lifting.{viewed}

module _ {A : Type 0} where
  pub stands_same : (v w : View A) (j : ℕ) → at j w ≡ at j v → StandsAt j v w
  stands_same v w j e = let same = ap (λ (p : Part A). p.settled) e in (ap (λ (p : Part A). p.asked) e, omega arith)

  pub stand_trans : (u v w : View A) → Stand u v → Stand v w → Stand u w
  stand_trans u v w h g = record { each = λ j. let x = h.each j in let y = g.each j in let a = x.1 in let b = y.1 in (y.0 ∙ x.0, omega arith) }

  module _ (v : View A) (k : ℕ) (p : Part A) (ds : List Deed) where
    pub put_else : (j : ℕ) → j ≢ k → at j (viewed v k p ds) ≡ at j v
    put_else j ne = nth_else v.parts k j p ne

    module _ (long : k < length v.parts) where
      pub put_is : at k (viewed v k p ds) ≡ p
      put_is = nth_set v.parts k p long

      pub put_long : k < length (set v.parts k p)
      put_long = let l = length-set v.parts k p in omega arith

      put_each : (F : ℕ → Part A → Type 0) → F k p → ((j : ℕ) → F j (at j v)) → (j : ℕ) → F j (at j (viewed v k p ds))
      put_each F here there j = ⊎_elim (λ (e : j ≡ k). subst (λ (i : ℕ). F i (at i (viewed v k p ds))) (sym e) (subst (F k) (sym put_is) here))
          (λ (ne : j ≢ k). subst (F j) (sym (put_else j ne)) (there j)) (decided j k)

      pub put_caller : (first count cells : ℕ) → IsCaller first count cells v → owns p ≡ owns (at k v) → length p.asked ≤ 1 → (0 < length p.asked → (first ≤ k) × (k < first + count)) → IsCalm p → IsCaller first count cells (viewed v k p ds)
      put_caller first count cells c same few mine calm = record {
        one = c.one;
        wide = length-set v.parts k p ∙ c.wide;
        room = c.room;
        own = put_each (λ j q. first ≤ j → j < first + count → owns q ≡ 1) (λ low high. same ∙ c.own k low high) c.own;
        mine = put_each (λ j q. 0 < length q.asked → (first ≤ j) × (j < first + count)) mine c.mine;
        few = put_each (λ j q. length q.asked ≤ 1) few c.few;
        calm = put_each (λ j q. IsCalm q) calm c.calm;
      }

      pub put_stands : p.asked ≡ (at k v).asked → (at k v).settled ≤ p.settled → Stand v (viewed v k p ds)
      put_stands asked settled = record {
        each = λ j. ⊎_elim (λ (e : j ≡ k). subst (λ (i : ℕ). StandsAt i v (viewed v k p ds)) (sym e) (let s = ap (λ (q : Part A). q.settled) put_is in (ap (λ (q : Part A). q.asked) put_is ∙ asked, omega arith)))
            (λ (ne : j ≢ k). stands_same v (viewed v k p ds) j (put_else j ne)) (decided j k);
      }

      pub put_shuts : p.asked ≡ [] → Shuts k v (viewed v k p ds)
      put_shuts shut = record { shut = ap (λ (q : Part A). q.asked) put_is ∙ shut; others = λ j ne. stands_same v (viewed v k p ds) j (put_else j ne) }

      -- the part is changed again
      pub put_again : (f : Part A → Part A) → set (set v.parts k p) k (f (nth (set v.parts k p) k)) ≡ set v.parts k (f p)
      put_again f = ap (λ (q : Part A). set (set v.parts k p) k (f q)) put_is ∙ set_twice v.parts k p (f p)

  -- what a call that shuts the place finds behind a look
  pub shuts_after : (k : ℕ) (v x w : View A) → ((j : ℕ) → j ≢ k → at j x ≡ at j v) → Shuts k x w → Shuts k v w
  shuts_after k v x w same h = record { shut = h.shut; others = λ j ne. let e = same j ne in let s = ap (λ (q : Part A). q.settled) e in let o = h.others j ne in let le = o.1 in (o.0 ∙ ap (λ (q : Part A). q.asked) e, omega arith) }

  -- each change of a caller's own view leaves it a caller's
  module _ (first count cells k : ℕ) (v : View A) (c : IsCaller first count cells v) (inside : k < cells) where
    pub inside_parts : k < length v.parts
    inside_parts = let w = c.wide in omega arith

    -- a part that differs from the one that stood there in what no caller's seat has
    calm_as : (p : Part A) → p.tickets ≡ (at k v).tickets → p.filling ≡ (at k v).filling → p.taking ≡ (at k v).taking → p.late ≡ (at k v).late → IsCalm p
    calm_as p et ef ek el = let q = c.calm k in record { tickets = ap length et ∙ q.tickets; filling = ef ∙ q.filling; taking = ek ∙ q.taking; late = el ∙ q.late }

    pub looked_caller : (u : ℕ) → IsCaller first count cells (looked k u v)
    looked_caller u = let p : Part A = record (at k v) { settled = 1 - u } in put_caller v k p (looked k u v).deeds inside_parts first count cells c refl (c.few k) (c.mine k) (calm_as p refl refl refl refl)

    pub filled_caller : (o : Opening) (a : A) → IsCaller first count cells (filled k o a v)
    filled_caller o a = let p : Part A = record (at k v) { filled = (at k v).filled ++ (record { opening = o; answer = a }) ∷ [] } in put_caller v k p (filled k o a v).deeds inside_parts first count cells c refl (c.few k) (c.mine k) (calm_as p refl refl refl refl)

    pub dropped_caller : (o : Opening) → IsCaller first count cells (dropped k o v)
    dropped_caller o = let p : Part A = record (at k v) { dropped = (at k v).dropped ++ o.number ∷ [] } in put_caller v k p (dropped k o v).deeds inside_parts first count cells c refl (c.few k) (c.mine k) (calm_as p refl refl refl refl)

    pub took_caller : (q : RequestId) (a : A) → IsCaller first count cells (took k q a v)
    took_caller q a = let p : Part A = record (at k v) { asked = []; settled = 1; taken = (at k v).taken ++ (record { opening = record { number = (at k v).count; request = q }; answer = a }) ∷ [] } in
        put_caller v k p v.deeds inside_parts first count cells c refl (omega arith) (λ h. absurd (omega arith)) (calm_as p refl refl refl refl)

    pub cancelled_caller : IsCaller first count cells (cancelled k v)
    cancelled_caller = let p : Part A = record (at k v) { asked = []; settled = 0; given_up = (at k v).given_up ++ (at k v).count ∷ [] } in
        put_caller v k p (cancelled k v).deeds inside_parts first count cells c refl (omega arith) (λ h. absurd (omega arith)) (calm_as p refl refl refl refl)

    pub withdrawn_caller : IsCaller first count cells (withdrawn k v)
    withdrawn_caller = let p : Part A = record (at k v) { asked = []; settled = 1 } in put_caller v k p (withdrawn k v).deeds inside_parts first count cells c refl (omega arith) (λ h. absurd (omega arith)) (calm_as p refl refl refl refl)

    pub opened_caller : (q : RequestId) → first ≤ k → k < first + count → IsCaller first count cells (opened k q v)
    opened_caller q low high = let p : Part A = record (at k v) { count = (at k v).count + 1; asked = q ∷ []; settled = 0 } in
        put_caller v k p (opened k q v).deeds inside_parts first count cells c refl (omega arith) (λ h. (low, high)) (calm_as p refl refl refl refl)

    pub looked_at : (u : ℕ) → at k (looked k u v) ≡ record (at k v) { settled = 1 - u }
    looked_at u = put_is v k (record (at k v) { settled = 1 - u }) (looked k u v).deeds inside_parts

    pub looked_else : (u j : ℕ) → j ≢ k → at j (looked k u v) ≡ at j v
    looked_else u j ne = put_else v k (record (at k v) { settled = 1 - u }) (looked k u v).deeds j ne

    pub looked_stands : (u : ℕ) → (at k v).settled + u ≤ 1 → Stand v (looked k u v)
    looked_stands u le = put_stands v k (record (at k v) { settled = 1 - u }) (looked k u v).deeds inside_parts refl (omega arith)

    pub filled_stands : (o : Opening) (a : A) → Stand v (filled k o a v)
    filled_stands o a = put_stands v k (record (at k v) { filled = (at k v).filled ++ (record { opening = o; answer = a }) ∷ [] }) (filled k o a v).deeds inside_parts refl (omega arith)

    pub dropped_stands : (o : Opening) → Stand v (dropped k o v)
    dropped_stands o = put_stands v k (record (at k v) { dropped = (at k v).dropped ++ o.number ∷ [] }) (dropped k o v).deeds inside_parts refl (omega arith)

    pub took_shuts : (q : RequestId) (a : A) → Shuts k v (took k q a v)
    took_shuts q a = put_shuts v k (record (at k v) { asked = []; settled = 1; taken = (at k v).taken ++ (record { opening = record { number = (at k v).count; request = q }; answer = a }) ∷ [] }) v.deeds inside_parts refl

    pub cancelled_shuts : Shuts k v (cancelled k v)
    cancelled_shuts = put_shuts v k (record (at k v) { asked = []; settled = 0; given_up = (at k v).given_up ++ (at k v).count ∷ [] }) (cancelled k v).deeds inside_parts refl

    pub withdrawn_shuts : Shuts k v (withdrawn k v)
    withdrawn_shuts = put_shuts v k (record (at k v) { asked = []; settled = 1 }) (withdrawn k v).deeds inside_parts refl
