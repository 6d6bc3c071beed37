use Rattle.std.proofs.Common.{◌∙◌, ◌||◌, ap, take, reverse}
use Rattle.xa_machine.specs.Ends.{breaks}
use Rattle.xa_machine.proofs.Scans.{one_more}
use Rattle.xa_machine.proofs.Talks.{broken_none, broken_more}
use Rattle.xa_machine.proofs.talking.was_broken.Goals as goal

pub loop-event-init : goal.loop-event-init
loop-event-init c = broken_none c.args.caller c.args.request

pub loop-event-preserved : goal.loop-event-preserved
loop-event-preserved c =
    rw (one_more c.args.events.now c.loop-event.event-index c.event-item.result c.loop-event-test.true c.event-item.is)
    (c.either-found.ensures ∙ (ap (λ b. b || c.loop-event.found) c.breaks.ensures ∙ (ap (λ b. breaks c.args.caller c.args.request c.event-item.result || b) c.loop-event.invariant
    ∙ broken_more c.args.caller c.args.request c.event-item.result (reverse (take c.loop-event.event-index c.args.events.now)))))
