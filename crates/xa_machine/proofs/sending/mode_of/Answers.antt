use Rattle.std.proofs.Common.{◌-◌, ◌∙◌, refl, sym, ap, take, reverse}
use Rattle.std.proofs.Math.Seq.{take-length}
use Rattle.xa_machine.specs.Here.{mode_at}
use Rattle.xa_machine.proofs.Scans.{newest_first, none_left}
use Rattle.xa_machine.proofs.Reading.{mode_none, mode_stops, mode_skips}
use Rattle.xa_machine.proofs.sending.mode_of.Goals as goal

pub loop-i-init : goal.loop-i-init
loop-i-init c = rw (take-length c.args.events.now) refl

pub returns-then-is_accept_of : goal.returns-then-is_accept_of
returns-then-is_accept_of c =
    c.mode_in.ensures ∙ sym (c.loop-i.invariant ∙ (ap (mode_at c.args.request) (newest_first c.args.events.now c.loop-i.i c.index-events-i.result c.loop-i-test.true c.loop-i.auto.i c.index-events-i.is)
    ∙ mode_stops c.args.request c.index-events-i.result (reverse (take (c.loop-i.i - 1) c.args.events.now)) (sym c.is_accept_of.ensures ∙ c.if-is_accept_of.true)))

pub loop-i-preserved : goal.loop-i-preserved
loop-i-preserved c =
    c.loop-i.invariant ∙ (ap (mode_at c.args.request) (newest_first c.args.events.now c.loop-i.i c.index-events-i.result c.loop-i-test.true c.loop-i.auto.i c.index-events-i.is)
    ∙ mode_skips c.args.request c.index-events-i.result (reverse (take (c.loop-i.i - 1) c.args.events.now)) (sym c.is_accept_of.ensures ∙ c.if-is_accept_of.false))

pub returns : goal.returns
returns c = mode_none c.args.request ∙ sym (c.loop-i.invariant ∙ ap (mode_at c.args.request) (none_left c.args.events.now c.loop-i.i c.loop-i-test.false))
