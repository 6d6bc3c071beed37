use Rattle.std.proofs.Common.{◌-◌, ◌∙◌, List, sym, ap, subst, take, reverse, arith}
use Rattle.std.proofs.Math.Seq.{take-length}
use Rattle.xa_events.specs.declared.event.Event.{Event}
use Rattle.xa_events.specs.Words.{count}
use Rattle.xa_events.specs.Laws.{LawOfEnds}
use Rattle.xa_events.specs.Request.{is_forward_of}
use Rattle.xa_machine.proofs.Scans.{newest_first, none_left}
use Rattle.xa_machine.proofs.Settled.{none_before}
use Rattle.xa_machine.proofs.sending.forwards_of.Goals as goal

pub loop-i-init : goal.loop-i-init
loop-i-init c = rw (take-length c.args.events.now) (record { same = omega arith; law = λ law. law; few = omega arith })

pub returns-then-is_accept_of : goal.returns-then-is_accept_of
returns-then-is_accept_of c = λ law.
    let past = reverse (take (c.loop-i.i - 1) c.args.events.now) in
    let here = newest_first c.args.events.now c.loop-i.i c.index-events-i.result c.loop-i-test.true c.loop-i.auto.i c.index-events-i.is in
    let none = none_before c.args.request c.index-events-i.result past (subst (λ (es : List Event). LawOfEnds es) here (c.loop-i.invariant.law law)) (sym c.is_accept_of.ensures ∙ c.if-is_accept_of.true) in
    let same = ap (λ (es : List Event). count (is_forward_of c.args.request) es) here in
    let all = c.loop-i.invariant.same in
    omega (arith, none, same, all)

pub returns : goal.returns
returns c = λ law.
    let none = ap (λ (es : List Event). count (is_forward_of c.args.request) es) (none_left c.args.events.now c.loop-i.i c.loop-i-test.false) in
    let all = c.loop-i.invariant.same in
    omega (arith, none, all)
