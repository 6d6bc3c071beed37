use Rattle.std.proofs.Common.{subst}
use Rattle.std.specs.Bool.{Decides}
use Rattle.xa_events.specs.State.{State}
use Rattle.xa_events.specs.Answers.{IsAnswerTo}
use Rattle.xa_events.specs.Request.{WasSettled}
use Rattle.xa_machine.proofs.machine.Machine.was_answered.Goals as goal

pub returns : goal.returns
returns c = subst (λ (s : State). Decides c.was_settled.result (WasSettled c.args.a.now.request (IsAnswerTo c.args.a.now.answer) s.past)) c.self.view_is
    (rw c.deref.ensures.value at c.was_settled.ensures)
