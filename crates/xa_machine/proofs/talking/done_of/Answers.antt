use Rattle.std.proofs.Common.{◌∙◌, ◌||◌, List, sym, ap, take, reverse, arith}
use Rattle.xa_events.specs.declared.event.Event.{Event}
use Rattle.xa_events.specs.Conversation.{broken, done_after}
use Rattle.xa_machine.specs.Ends.{breaks, side_at}
use Rattle.xa_machine.proofs.Scans.{one_more}
use Rattle.xa_machine.proofs.Talks.{broken_none, broken_more, done_none, done_more}
use Rattle.xa_machine.proofs.talking.done_of.Goals as goal

pub loop-event-init : goal.loop-event-init
loop-event-init c = record {
  same = done_none c.args.end.caller (side_at c.args.end.service) c.args.end.request;
  broke = broken_none c.args.end.caller c.args.end.request;
  few = record { sent = omega arith; received = omega arith };
}

pub loop-event-preserved : goal.loop-event-preserved
loop-event-preserved c =
    let past : List Event = reverse (take c.loop-event.event-index c.args.events.now) in
    let more = one_more c.args.events.now c.loop-event.event-index c.event-item.result c.loop-event-test.true c.event-item.is in record {
      same = rw more
          (c.done_after-done.ensures.same (broken c.args.end.caller past) (sym c.loop-event.invariant.broke)
          ∙ (ap (λ done. done_after c.args.end.caller (side_at c.args.end.service) c.args.end.request c.event-item.result (broken c.args.end.caller past) done) c.loop-event.invariant.same
          ∙ done_more c.args.end.caller (side_at c.args.end.service) c.args.end.request c.event-item.result past));
      broke = rw more
          (c.either-broke.ensures ∙ (ap (λ b. b || c.loop-event.broke) c.breaks.ensures ∙ (ap (λ b. breaks c.args.end.caller c.args.end.request c.event-item.result || b) c.loop-event.invariant.broke
          ∙ broken_more c.args.end.caller c.args.end.request c.event-item.result past)));
      few = c.done_after-done.ensures.few _ c.loop-event.invariant.few;
    }
