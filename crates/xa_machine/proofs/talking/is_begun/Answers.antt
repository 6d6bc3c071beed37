use Rattle.std.proofs.Common.{◌∙◌, ◌||◌, ap, take, reverse}
use Rattle.xa_events.specs.Conversation.{begins_with}
use Rattle.xa_machine.specs.Ends.{side_at}
use Rattle.xa_machine.proofs.Scans.{one_more}
use Rattle.xa_machine.proofs.Talks.{begun_none, begun_more}
use Rattle.xa_machine.proofs.talking.is_begun.Goals as goal

pub loop-event-init : goal.loop-event-init
loop-event-init c = begun_none (side_at c.args.service) c.args.request

pub loop-event-preserved : goal.loop-event-preserved
loop-event-preserved c =
    rw (one_more c.args.events.now c.loop-event.event-index c.event-item.result c.loop-event-test.true c.event-item.is)
    (c.either-found.ensures ∙ (ap (λ b. b || c.loop-event.found) c.begins_with.ensures ∙ (ap (λ b. begins_with (side_at c.args.service) c.args.request c.event-item.result || b) c.loop-event.invariant
    ∙ begun_more (side_at c.args.service) c.args.request c.event-item.result (reverse (take c.loop-event.event-index c.args.events.now)))))
