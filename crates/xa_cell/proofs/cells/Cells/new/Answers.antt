use Rattle.std.proofs.Common.{arith, ◌≡◌, ◌∙◌, ℕ, List, None, length, replicate, ap, sym, subst}
use Rattle.atomic_table.specs.Table.{opening as at_start}
use Rattle.xa_cell.specs.Dealing.{whole, cells_in}
use Rattle.xa_cell.specs.Rule.{Ruled}
use Rattle.xa_cell.proofs.OneCell.{SlotOf}
use Rattle.xa_cell.proofs.Dealing.{starts, some_cell, few_cells}
use Rattle.xa_cell.proofs.cells.Cells.new.Goals as goal

pub count-all-requires : goal.count-all-requires
count-all-requires g c = let few = few_cells c.args.limits.now c.requires.each in let most = c.requires.callers.1 in omega arith

pub vacant-requires : goal.vacant-requires
vacant-requires g c = let limits = c.in_ok-about.about.items in let n : c.count-all.result ≡ cells_in limits = c.count-all.ensures ∙ ap cells_in (sym c.in_ok-about.ensures.items) in
    let words = c.as_slice.ensures.value ∙ (c.in_ok-words.ensures.items_if_clones_equal (λ y e. e) ∙ ap (λ m. replicate m 0) n) in
    let At : List ℕ × ℕ → Type 0 = λ z. Ruled limits (at_start z.0 (replicate z.1 (let x : SlotOf g.row.A.Denot = None in x)) (whole limits)) in
    subst At (λ i. (sym words i, sym n i)) (starts limits)

pub invariant_of-cells : goal.invariant_of-cells
invariant_of-cells g c = let e = c.in-Ok.ensures in let limits = c.args.limits.now in let counted : c.count-all.result ≡ cells_in limits = c.count-all.ensures in
    let all : c.count-all.result ≡ cells_in c.in-Ok.table.shared.key.items = counted ∙ (ap cells_in (sym c.in_ok-about.ensures.items) ∙ ap (λ v. cells_in v.items) (sym e.5)) in
    let words : c.in-Ok.table.shared.table_id.words ≡ c.count-all.result = e.0 ∙ (c.as_slice.ensures.len ∙ c.in_ok-words.ensures.len) in
    let callers : length c.in-Ok.table.shared.key.items ≡ length limits = ap (λ v. length v.items) e.5 ∙ ap length c.in_ok-about.ensures.items in
    let some_ = c.requires.callers.0 in let most = c.requires.callers.1 in let one = some_cell limits some_ c.requires.each in let few = few_cells limits c.requires.each in record {
      sized = (words ∙ all, e.1 ∙ all);
      some = (omega arith, omega arith);
      few = (omega arith);
    }
