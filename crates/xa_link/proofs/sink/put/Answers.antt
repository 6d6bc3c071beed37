use Rattle.std.proofs.Common.{rules}
use Rattle.xa_link.proofs.Pieces.{grew_on}
use Rattle.xa_link.proofs.sink.put.Goals as goal

pub loop-at-preserved : goal.loop-at-preserved
loop-at-preserved g c = record {
  within = search rules;
  grew = grew_on _ _ _ c.args.piece.now c.loop-at.at c.in_ok-at.field-0 c.loop-at.invariant.grew c.in_ok-at.ensures.taken;
  quiet = search rules;
  alone = search rules;
}
