-- The last pass of each queue is taken, one after the other.
use Rattle.std.proofs.Common.{◌≡◌, ℕ, ◌+◌, ◌<◌, List, [], ◌∷◌, ◌++◌, Some, None, length, get_or, set, take, drop, append-nil, inl, inr, sym, ◌∙◌, ap, subst, arith, length-append}
use Rattle.std.proofs.lemmas.List.{get_or_push, get_or_append_left, get_or-set_same, get_or-set_other, get_or_default, length-set, take_all}
use Rattle.std.proofs.lemmas.Bool.{cases_lt}
use Rattle.std.specs.declared.vec.Vec.{Vec}
use Rattle.std.specs.declared.alloc.Global.{Global}
use Rattle.xa_client_worker.specs.xa_lock.declared.pass.LockPass.{LockPass}
use Rattle.xa_client_worker.specs.xa_held.declared.kept_queue.QueueNote.{QueueNote}
use Rattle.xa_client_worker.specs.xa_caller.declared.cargo.Filling.{Filling}
use Rattle.xa_client_worker.specs.xa_desk.Desks.{IsThere}
use Rattle.xa_boot.specs.Supplies.{QueuePass}
use Rattle.xa_boot.specs.Staffing.{AreTaken}
use Rattle.xa_boot.proofs.Noting.{drop_all}

abbrev pub Pass : Type 0
Pass = LockPass (QueueNote Filling)

abbrev pub Passes : Type 0
Passes = Vec (LockPass (QueueNote Filling)) Global

pub none_taken : (old now : List Passes) (taken : List QueuePass) → now ≡ old → taken ≡ [] → AreTaken 0 old now taken
none_taken old now taken same none = record {
  count = ap length same;
  each_taken = ap length none;
  each = λ k d within. absurd (omega (arith, within));
  rest = λ k d least. ap (λ l. get_or l k d) same;
}

pub taken_more : (n : ℕ) (old now : List Passes) (taken : List QueuePass) (its left : Passes) (pass : Pass) → AreTaken n old now taken → n < length old → its ≡ get_or now n its → (get_or now n its).items ≡ left.items ++ pass ∷ [] → AreTaken (n + 1) old (set now n left) (taken ++ Some pass ∷ [])
taken_more n old now taken its left pass so_far within is last =
    let count = so_far.count in
    let many = so_far.each_taken in
    let more = length-append taken (Some pass ∷ []) in
    let inside : n < length now = omega (arith, within, count) in
    record {
      count = length-set now n left ∙ count;
      each_taken = omega (arith, more, many);
      each = λ k d less. elim (cases_lt k n) [
        | inl before ↦
            let apart : k ≡ n → ⊥ = λ same. omega (arith, same, before) in
            subst (IsThere (λ p. (get_or old k d).items ≡ (get_or (set now n left) k d).items ++ p ∷ [])) (sym (get_or_append_left taken (Some pass ∷ []) None k (omega (arith, before, many))))
            (subst (λ (v : Passes). IsThere (λ p. (get_or old k d).items ≡ v.items ++ p ∷ []) (get_or taken k None)) (sym (get_or-set_other now n k left d apart)) (so_far.each k d before))
        | inr beyond ↦
            let same : k ≡ n = omega (arith, less, beyond) in
            subst (λ j. IsThere (λ p. (get_or old j d).items ≡ (get_or (set now n left) j d).items ++ p ∷ []) (get_or (taken ++ Some pass ∷ []) j None)) (sym same)
            (subst (IsThere (λ p. (get_or old n d).items ≡ (get_or (set now n left) n d).items ++ p ∷ [])) (sym (get_or_push taken (Some pass) None n many))
            (ap (λ (v : Passes). v.items) (sym (so_far.rest n d (omega arith)) ∙ get_or_default now n d its inside) ∙ last ∙ ap (λ (v : Passes). v.items ++ pass ∷ []) (sym (get_or-set_same now n left d inside))))
      ];
      rest = λ k d least. let apart : k ≡ n → ⊥ = λ same. omega (arith, same, least) in get_or-set_other now n k left d apart ∙ so_far.rest k d (omega (arith, least));
    }

-- what a loop wrote into a whole list is the list
pub written : {X : Type 0} (n : ℕ) (now old : List X) → n ≡ length old → length now ≡ length old → take n (now ++ drop (length now) old) ≡ now
written n now old all same =
    ap (λ l. take n (now ++ l)) (drop_all (length now) old (omega (arith, same))) ∙ ap (take n) (append-nil now) ∙ take_all n now (omega (arith, all, same))
