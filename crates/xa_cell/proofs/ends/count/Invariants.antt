use Rattle.std.proofs.Common.{◌≡◌, ◌+◌, drop}
use Rattle.xa_cell.specs.Dealing.{cells_in}
use Rattle.xa_cell.proofs.ends.count.Given as goal

-- those so far, and the others
abbrev pub invariant-loop-limit : goal.invariant-loop-limit
invariant-loop-limit l = l.all + cells_in (drop l.limit-index l.limits) ≡ cells_in l.limits
