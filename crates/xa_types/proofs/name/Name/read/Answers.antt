use Rattle.std.proofs.Common.{ℕ, List, ◌++◌, drop, length, replicate, rules, subst, sym}
use Rattle.xa_types.specs.Padded.{IsPadded, kept}
use Rattle.xa_types.proofs.Padding.{padded}
use Rattle.xa_types.proofs.name.Name.read.Goals as goal

pub invariant_of-result : goal.invariant_of-result
invariant_of-result c =
    let xs = c.args.octets.now in
    subst (λ (ys : List ℕ). IsPadded (kept (ys ++ drop (length xs) (replicate 31 0)) (length xs))) (sym c.copy_from_slice.ensures.after) (padded xs (search rules))
