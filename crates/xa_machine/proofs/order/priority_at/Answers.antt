use Rattle.std.proofs.Common.{◌-◌, ◌∙◌, refl, sym, ap, take, reverse}
use Rattle.std.proofs.Math.Seq.{take-length}
use Rattle.xa_events.specs.Request.{priority_at}
use Rattle.xa_machine.proofs.Scans.{newest_first, none_left}
use Rattle.xa_machine.proofs.Reading.{priority_none, priority_stops, priority_skips}
use Rattle.xa_machine.proofs.order.priority_at.Goals as goal

pub loop-i-init : goal.loop-i-init
loop-i-init c = rw (take-length c.args.events.now) refl

pub returns-then-is_entry_of : goal.returns-then-is_entry_of
returns-then-is_entry_of c =
    c.priority_in.ensures ∙ sym (c.loop-i.invariant ∙ (ap (λ past. priority_at past c.args.request) (newest_first c.args.events.now c.loop-i.i c.index-events-i.result c.loop-i-test.true c.loop-i.auto.i c.index-events-i.is)
    ∙ priority_stops c.args.request c.index-events-i.result (reverse (take (c.loop-i.i - 1) c.args.events.now)) (sym c.is_entry_of.ensures ∙ c.if-is_entry_of.true)))

pub loop-i-preserved : goal.loop-i-preserved
loop-i-preserved c =
    c.loop-i.invariant ∙ (ap (λ past. priority_at past c.args.request) (newest_first c.args.events.now c.loop-i.i c.index-events-i.result c.loop-i-test.true c.loop-i.auto.i c.index-events-i.is)
    ∙ priority_skips c.args.request c.index-events-i.result (reverse (take (c.loop-i.i - 1) c.args.events.now)) (sym c.is_entry_of.ensures ∙ c.if-is_entry_of.false))

pub returns : goal.returns
returns c = priority_none c.args.request ∙ sym (c.loop-i.invariant ∙ ap (λ past. priority_at past c.args.request) (none_left c.args.events.now c.loop-i.i c.loop-i-test.false))
