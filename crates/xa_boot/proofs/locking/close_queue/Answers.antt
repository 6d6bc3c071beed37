use Rattle.xa_boot.proofs.Unused.{none_waits}
use Rattle.xa_boot.proofs.locking.close_queue.Goals as goal

pub home-requires : goal.home-requires
home-requires c =
    none_waits c.requires.fresh.0 c.args.queue c.args.passes.items c.close-kept.result c.drain.result.waiting c.requires.fresh.1 c.requires.some c.drain.ensures.waiting c.close-kept.ensures.known c.close-kept.ensures.makers c.drain.ensures.brought
