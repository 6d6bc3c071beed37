-- A seat behind a step: what it knows and has.
use Rattle.std.proofs.Common.{◌≡◌, ℕ, List, [], ◌∷◌, sym, ap, ◌∙◌, subst}
use Rattle.atomic_table.specs.Table.{rest}
use Rattle.xa_cell.specs.declared.view.View.{View}
use Rattle.xa_cell.specs.Tokens.{IsCaller, IsTicket}
use Rattle.xa_cell.proofs.OneCell.{SlotOf}
use Rattle.xa_cell.proofs.Lifting.{MineOf}

module _ {A : Type 0} where
  pub empty_of : (m : MineOf A) → m.1 ≡ [] → m ≡ (m.0, [])
  empty_of m e = ap (λ (l : List (ℕ × SlotOf A)). let z : MineOf A = (m.0, l) in z) e

  pub caller_is : (first count cells cells' : ℕ) (x w : View A) → cells' ≡ cells → x ≡ w → IsCaller first count cells w → IsCaller first count cells' x
  caller_is first count cells cells' x w same e c = subst (λ (z : ℕ × View A). IsCaller first count z.0 z.1) (λ i. (sym same i, sym e i)) c

  pub ticket_is : (k k' cells cells' : ℕ) (x w : View A) → k' ≡ k → cells' ≡ cells → x ≡ w → IsTicket k cells w → IsTicket k' cells' x
  ticket_is k k' cells cells' x w ek same e c = subst (λ (z : ℕ × ℕ × View A). IsTicket z.0 z.1 z.2) (λ i. (sym ek i, sym same i, sym e i)) c

  -- the slot that a seat has is read and written
  pub moved_slot : (m n : MineOf A) (v : View A) (k : ℕ) (x y : SlotOf A) (h : List (ℕ × SlotOf A)) → m ≡ (v, (k, x) ∷ h) → h ≡ [] → n ≡ (m.0, (k, y) ∷ rest m.1) → n ≡ (v, (k, y) ∷ [])
  moved_slot m n v k x y h e eh en = en ∙ (ap (λ (z : MineOf A). let w : MineOf A = (z.0, (k, y) ∷ rest z.1) in w) e ∙ ap (λ (l : List (ℕ × SlotOf A)). let w : MineOf A = (v, (k, y) ∷ l) in w) eh)

  -- a seat's own slot, as `exchange` asks for it
  pub has_slot : (m : MineOf A) (v : View A) (k : ℕ) (x : SlotOf A) (h : List (ℕ × SlotOf A)) → m ≡ (v, (k, x) ∷ h) → (y : SlotOf A) × (m.1 ≡ (k, y) ∷ rest m.1)
  has_slot m v k x h e = let out : m.1 ≡ (k, x) ∷ h = ap (λ (z : MineOf A). z.1) e in (x, out ∙ ap (λ (l : List (ℕ × SlotOf A)). (k, x) ∷ rest l) (sym out))

  slot_or : SlotOf A → List (ℕ × SlotOf A) → SlotOf A
  slot_or d [] = d
  slot_or d (x ∷ xs) = x.1

  -- what `exchange` found there
  pub slot_found : (l h h' : List (ℕ × SlotOf A)) (k : ℕ) (x y : SlotOf A) → l ≡ (k, x) ∷ h → l ≡ (k, y) ∷ h' → x ≡ y
  unfolding slot_or
  slot_found l h h' k x y e f = ap (slot_or x) (sym e ∙ f)
