use Rattle.std.proofs.Common.{arith, ap}
use Rattle.xa_cell.specs.Dealing.{cells_in}
use Rattle.xa_cell.proofs.Dealing.{cells_next, drop_end}
use Rattle.xa_cell.proofs.ends.count.Goals as goal

pub loop-limit-init : goal.loop-limit-init
loop-limit-init c = omega arith

pub overflow_add-all : goal.overflow_add-all
overflow_add-all c = let k = cells_next c.args.limits.now c.loop-limit.limit-index c.loop-limit-test.true in let i = c.loop-limit.invariant in omega arith

pub loop-limit-preserved : goal.loop-limit-preserved
loop-limit-preserved c = let k = cells_next c.args.limits.now c.loop-limit.limit-index c.loop-limit-test.true in let i = c.loop-limit.invariant in omega arith

pub returns : goal.returns
returns c = let none_ = ap cells_in (drop_end c.args.limits.now c.loop-limit.limit-index (omega arith)) in let i = c.loop-limit.invariant in omega arith
