use Rattle.std.proofs.Common.{◌∙◌, arith}
use Rattle.xa_boot.proofs.Locks.{locked}
use Rattle.xa_boot.proofs.locking.lock_queue.Goals as goal

pub returns-in-Ok : goal.returns-in-Ok
returns-in-Ok c =
    let workers = c.from.ensures in
    let count = c.in-Ok.ensures.count in
    locked c.args.setup.now c.args.clients c.args.cells.now c.args.first c.args.workers c.args.place c.in-Ok.made.0 c.in-Ok.made.1 c.in_ok-plain.plain c.of-kept.result c.in_ok-plain.ensures c.of-kept.ensures
    (count.0 ∙ workers) (count.1 ∙ workers) c.in-Ok.ensures.lock (λ k d within. c.in-Ok.ensures.known k d (omega (arith, within, workers)))
