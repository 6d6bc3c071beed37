use Rattle.std.proofs.Common.{arith, ◌∙◌, ◌≡◌, ◌≢◌, ℕ, zero, suc, ◌<◌, ◌≤◌, Bool, false, List, [], ◌∷◌, get_or, set, refl, ap, ⊎_elim}
use Rattle.std.proofs.lemmas.List.{get_or-set_other}
use lib.ListN.{get_elem?}
use Rattle.xa_cell.specs.Dealing.{cells_in}
use Rattle.xa_cell.proofs.Lists.{below, decided}
use Rattle.xa_cell.proofs.Gathering.{ends, answered_past}
use Rattle.xa_cell.proofs.cells.Cells.close.Goals as goal

pub loop-cell-init : goal.loop-cell-init
loop-cell-init g c = let closed = c.close_with-closed.ensures in let count = closed.counts.1 ∙ c.args.self.sized.1 in
    let e = ends _ _ _ _ _ _ closed.values.2 c.requires.all c.gather-all.ensures.gathered c.requires.shut in record {
      there = closed.values.1;
      gone = λ k lt. absurd (omega arith);
      count = count;
      end = c.slot_count-cell-end.ensures ∙ count;
      empty = e.1;
    }

-- the value that is taken out is gone
set_false : (xs : List Bool) (k : ℕ) → get_or (set xs k false) k false ≡ false
set_false [] k = refl
set_false (x ∷ xs) zero = refl
set_false (x ∷ xs) (suc k) = set_false xs k

pub loop-cell-preserved : goal.loop-cell-preserved
loop-cell-preserved g c = let i = c.loop-cell.invariant in let cell = c.loop-cell.cell in let filled = c.loop-cell.closed.slots.filled in let t = c.take.ensures.others in record {
  there = λ k low high. ap (λ l. get_or l k false) t.1 ∙ (get_or-set_other filled cell k false false (λ e. omega (arith, low, e)) ∙ i.there k (omega (arith, low)) (omega (arith, high, t.2)));
  gone = λ k lt. ap (λ l. get_or l k false) t.1 ∙ ⊎_elim (λ (e : k ≡ cell). ap (λ n. get_or (set filled cell false) n false) e ∙ set_false filled cell) (λ (ne : k ≢ cell). get_or-set_other filled cell k false false ne ∙ i.gone k (omega (arith, lt, ne))) (decided k cell);
  count = t.2 ∙ i.count;
  end = i.end;
  empty = λ k lt. ap (λ l. get_elem? l k) t.0 ∙ i.empty k lt;
}

pub returns : goal.returns
returns g c = let e = ends _ _ _ _ _ _ c.close_with-closed.ensures.values.2 c.requires.all c.gather-all.ensures.gathered c.requires.shut in let self_ = c.args.self in let n = cells_in self_.table.shared.key.items in let sized = self_.sized.0 in
    record { answered = λ k. ⊎_elim (λ (lt : k < n). e.0 k lt) (λ (le : n ≤ k). answered_past self_ k c.args.seats.items (omega arith) c.requires.table) (below k n) }
