use Rattle.std.proofs.Common.{◌<◌, List, length, reverse, take, sym, subst, arith}
use Rattle.xa_events.specs.declared.event.Event.{Event}
use Rattle.xa_text.specs.Telling.{AreTold}
use Rattle.xa_text.proofs.Passing.{one_more, turn_at}
use Rattle.xa_text.proofs.Telling.{none_told}
use Rattle.xa_text.proofs.transcribing.all_told.Goals as goal

pub loop-event-init : goal.loop-event-init
loop-event-init c = none_told c.args.names.now c.in_ok-told.told.items c.in_ok-told.ensures.len c.in_ok-told.ensures.fresh

pub loop-event-preserved : goal.loop-event-preserved
loop-event-preserved c =
    let history = c.args.history.now in
    let i = c.loop-event.event-index in
    let e = c.event-item.result in
    let low : i < length history = omega arith in
    subst (λ (past : List Event). AreTold c.args.names.now past c.tell_maker.new.told.items) (sym (one_more history i e c.event-item.is low))
    (c.in_ok-tell_maker.ensures (reverse (take i history)) (λ client some few. turn_at client history i e c.event-item.is low (c.requires client some few)) c.loop-event.invariant)
