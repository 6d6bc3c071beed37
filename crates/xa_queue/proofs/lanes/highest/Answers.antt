use Rattle.std.proofs.Common.{arith, sym, ◌∙◌}
use Rattle.xa_queue.proofs.Written.{empty-more}
use Rattle.xa_queue.proofs.lanes.highest.Goals as goal

pub loop-left-preserved : goal.loop-left-preserved
loop-left-preserved g c =
    let so_far = c.loop-left.invariant in
    (omega (arith, so_far.0), empty-more c.args.lanes.now c.loop-left.left c.index-lanes-left.result c.loop-left-test.true so_far.0 c.index-lanes-left.is (sym c.is_empty.ensures ∙ c.if-not-is_empty.false) so_far.1)
