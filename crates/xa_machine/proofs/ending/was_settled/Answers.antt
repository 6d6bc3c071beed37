use Rattle.std.proofs.Common.{List, inl, inr, refl, sym, subst}
use Rattle.xa_events.specs.declared.event.Event.{Event}
use Rattle.xa_events.specs.Answers.{IsAnswerTo}
use Rattle.xa_events.specs.Request.{WasSettled}
use Rattle.std.proofs.Math.Seq.{take-length}
use Rattle.xa_machine.proofs.Scans.{newest_first, none_left}
use Rattle.xa_machine.proofs.ending.was_settled.Goals as goal

pub loop-i-init : goal.loop-i-init
loop-i-init c = rw (take-length c.args.events.now) (record { back = λ h. h; on = λ h. h })

pub returns-then-settles_so : goal.returns-then-settles_so
returns-then-settles_so c = (
  λ h. c.loop-i.invariant.on (rw (newest_first c.args.events.now c.loop-i.i c.index-events-i.result c.loop-i-test.true c.loop-i.auto.i c.index-events-i.is) (inl (c.settles_so.ensures.0 c.if-settles_so.true))),
  λ h. refl,
)

pub loop-i-preserved : goal.loop-i-preserved
loop-i-preserved c =
    let W : List Event → Type 0 = λ past. WasSettled c.args.request (IsAnswerTo c.args.answer.now) past in
    let here = newest_first c.args.events.now c.loop-i.i c.index-events-i.result c.loop-i-test.true c.loop-i.auto.i c.index-events-i.is in record {
      back = λ h. elim (subst W here (c.loop-i.invariant.back h)) [
        | inl settles ↦ absurd (cc (c.settles_so.ensures.1 settles, c.if-settles_so.false))
        | inr before ↦ before
      ];
      on = λ h. c.loop-i.invariant.on (subst W (sym here) (inr h));
    }

pub returns : goal.returns
returns c =
    let W : List Event → Type 0 = λ past. WasSettled c.args.request (IsAnswerTo c.args.answer.now) past in (
      λ h. absurd (cc h),
      λ h. absurd (subst W (none_left c.args.events.now c.loop-i.i c.loop-i-test.false) (c.loop-i.invariant.back h)),
    )
