-- Which places of a seat are open, carried from call to call. For the callers of this crate: each lemma takes what was known before a call
-- and a clause of the call.
use Rattle.std.proofs.Common.{◌≡◌, ◌≢◌, ℕ, ◌+◌, ◌<◌, ◌≤◌, ◌==◌, Bool, cond, List, [], ◌∷◌, ◌++◌, length, sym, refl, ap, ◌∙◌, subst, arith, length-append, ⊎_elim, eq-eqb, ne_eqb}
use Rattle.xa_types.specs.declared.ids.RequestId.{RequestId}
use Rattle.xa_cell.specs.declared.tokens.Seat.{Seat}
use Rattle.xa_cell.specs.declared.view.Part.{Part}
use Rattle.xa_cell.specs.declared.view.View.{View}
use Rattle.xa_cell.specs.Views.{at}
use Rattle.xa_cell.specs.Known.{known, IsNew}
use Rattle.xa_cell.specs.Places.{requests_at, OpenAre, Stand, Opens, Shuts}
use Rattle.xa_cell.proofs.Lists.{decided, none_in}

here_too : (k : ℕ) (p : ℕ × RequestId) (ps : List (ℕ × RequestId)) → p.0 ≡ k → requests_at k (p ∷ ps) ≡ p.1 ∷ requests_at k ps
here_too k p ps e = ap (λ (b : Bool). cond b (p.1 ∷ requests_at k ps) (requests_at k ps)) (eq-eqb p.0 k e)

not_here : (k : ℕ) (p : ℕ × RequestId) (ps : List (ℕ × RequestId)) → p.0 ≢ k → requests_at k (p ∷ ps) ≡ requests_at k ps
not_here k p ps ne = ap (λ (b : Bool). cond b (p.1 ∷ requests_at k ps) (requests_at k ps)) (ne_eqb p.0 k ne)

in_both : (k : ℕ) (ps qs : List (ℕ × RequestId)) → requests_at k (ps ++ qs) ≡ requests_at k ps ++ requests_at k qs
in_both k [] qs = refl
in_both k (p ∷ ps) qs = ⊎_elim
    (λ (e : p.0 ≡ k). here_too k p (ps ++ qs) e ∙ (ap (λ l. p.1 ∷ l) (in_both k ps qs) ∙ ap (λ l. l ++ requests_at k qs) (sym (here_too k p ps e))))
    (λ (ne : p.0 ≢ k). not_here k p (ps ++ qs) ne ∙ (in_both k ps qs ∙ ap (λ l. l ++ requests_at k qs) (sym (not_here k p ps ne)))) (decided p.0 k)

-- a place in the middle
with_this : (k : ℕ) (q : RequestId) (ps qs : List (ℕ × RequestId)) → requests_at k (ps ++ (k, q) ∷ qs) ≡ requests_at k ps ++ (q ∷ requests_at k qs)
with_this k q ps qs = in_both k ps ((k, q) ∷ qs) ∙ ap (λ l. requests_at k ps ++ l) (here_too k (k, q) qs refl)

module _ {A : Type 0} where
  -- a new seat has no place open
  pub none_open : {first count : ℕ} {v : View A} → IsNew first count v → OpenAre [] v
  none_open new = record { asked = λ k. ap (λ (p : Part A). p.asked) (new.parts k) }

  -- `begin` that answers a place, by its clause `open`
  pub one_more_open : {ps : List (ℕ × RequestId)} {k : ℕ} {q : RequestId} {v w : View A} → OpenAre ps v → Opens k q v w → OpenAre ((k, q) ∷ ps) w
  one_more_open {ps} {k} {q} {v} {w} h o = record {
    asked = λ j. ⊎_elim
        (λ (e : j ≡ k). subst (λ (i : ℕ). (at i w).asked ≡ requests_at i ((k, q) ∷ ps)) (sym e) (o.asked ∙ (ap (λ l. q ∷ l) (sym o.shut ∙ h.asked k) ∙ sym (here_too k (k, q) ps refl))))
        (λ (ne : j ≢ k). (o.others j ne).0 ∙ (h.asked j ∙ sym (not_here j (k, q) ps (λ e. ne (sym e))))) (decided j k);
  }

  -- a call behind which all places stand: `look`, `fill`, and `begin` that is full
  pub still_open : {ps : List (ℕ × RequestId)} {v w : View A} → OpenAre ps v → Stand v w → OpenAre ps w
  still_open h s = record { asked = λ j. (s.each j).0 ∙ h.asked j }

  -- a place among those that are open
  pub is_among : (ps qs : List (ℕ × RequestId)) (k : ℕ) (q : RequestId) {v : View A} → OpenAre (ps ++ (k, q) ∷ qs) v → 0 < length (at k v).asked
  is_among ps qs k q {v} h = let e = ap length (h.asked k ∙ with_this k q ps qs) in let l = length-append (requests_at k ps) (q ∷ requests_at k qs) in omega arith

  -- `take`, `cancel` or `withdraw`, by its clause `shut`
  pub one_less_open : (ps qs : List (ℕ × RequestId)) {k : ℕ} (q : RequestId) (s : Seat A) {w : View A} → OpenAre (ps ++ (k, q) ∷ qs) (known s) → Shuts k (known s) w → OpenAre (ps ++ qs) w
  one_less_open ps qs {k} q s {w} h t = record {
    asked = λ j. ⊎_elim
        (λ (e : j ≡ k). let few = s.caller.few k in let a = ap length (h.asked k ∙ with_this k q ps qs) in let b = length-append (requests_at k ps) (q ∷ requests_at k qs) in
        let c = ap length (in_both k ps qs) in let d = length-append (requests_at k ps) (requests_at k qs) in
        subst (λ (i : ℕ). (at i w).asked ≡ requests_at i (ps ++ qs)) (sym e) (t.shut ∙ sym (none_in (requests_at k (ps ++ qs)) (omega arith))))
        (λ (ne : j ≢ k). (t.others j ne).0 ∙ (h.asked j ∙ (in_both j ps ((k, q) ∷ qs) ∙ (ap (λ l. requests_at j ps ++ l) (not_here j (k, q) qs (λ e. ne (sym e))) ∙ sym (in_both j ps qs))))) (decided j k);
  }
