use Rattle.std.proofs.Common.{sym, subst}
use Rattle.xa_queue.specs.Changes.{IsEntry}
use Rattle.xa_held.specs.Kept.{Kept, IsRight}
use Rattle.xa_held.proofs.Keeping.{put_kept}
use Rattle.xa_held.proofs.kept_queue.KeptQueue.put.Goals as goal

pub invariant_of-self : goal.invariant_of-self
invariant_of-self g c =
    let its = subst (λ (k : Kept g.row.A.Denot). IsEntry k.queue.id c.args.entry c.args.event) (sym c.self.view_is) c.requires.event in
    let right = subst (λ (k : Kept g.row.A.Denot). IsRight k.cells c.args.entry) (sym c.self.view_is) c.requires.right in
    put_kept c.self.inside c.args.seen c.args.maker c.args.event c.args.entry c.put.result c.put.new.self its right c.requires.brings c.len-waits.ensures.reads c.put.ensures.noted c.put.ensures.kept c.self.invariant
