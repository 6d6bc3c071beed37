use Rattle.std.proofs.Common.{ap, length, arith, length-append}
use Rattle.xa_machine.specs.declared.queued.QueueRow.{QueueRow}
use Rattle.xa_machine.specs.Tables.{QueueShows, no_queue}
use Rattle.xa_machine.proofs.First.{all_push}
use Rattle.xa_machine.proofs.opening.new_queues.Goals as goal

pub loop-preserved : goal.loop-preserved
loop-preserved c = record {
  many = omega (arith, ap length c.in_ok-push.ensures.items, length-append {A = QueueRow}, c.loop.invariant.many);
  shows = rw c.in_ok-push.ensures.items (all_push QueueShows no_queue _ _ c.loop.invariant.shows c.new.ensures);
}
