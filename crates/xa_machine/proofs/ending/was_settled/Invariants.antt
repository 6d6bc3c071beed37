use Rattle.std.proofs.Common.{take, reverse}
use Rattle.xa_events.specs.Answers.{IsAnswerTo}
use Rattle.xa_events.specs.Request.{WasSettled}
use Rattle.xa_machine.proofs.ending.was_settled.Given as goal

abbrev pub invariant-loop-i : goal.invariant-loop-i
invariant-loop-i l = record {
  back : WasSettled l.request (IsAnswerTo l.answer) (reverse l.events) → WasSettled l.request (IsAnswerTo l.answer) (reverse (take l.i l.events));
  on : WasSettled l.request (IsAnswerTo l.answer) (reverse (take l.i l.events)) → WasSettled l.request (IsAnswerTo l.answer) (reverse l.events);
}
