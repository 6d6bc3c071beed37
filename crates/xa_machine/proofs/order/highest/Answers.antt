use Rattle.std.proofs.Common.{reverse}
use Rattle.xa_events.specs.Request.{priority_at}
use Rattle.xa_machine.proofs.Scans.{all_within}
use Rattle.xa_machine.proofs.order.highest.Goals as goal

pub loop-request-preserved : goal.loop-request-preserved
loop-request-preserved c = λ priority.
    all_within (priority_at (reverse c.args.events.now)) c.args.waiting.now c.loop-request.request-index (record { caller = record { 0 = 0 }; number = 0 })
    c.loop-request.highest c.priority_at.result c.max-highest.result priority c.loop-request-test.true (c.loop-request.invariant priority) c.priority_at.ensures c.max-highest.ensures
