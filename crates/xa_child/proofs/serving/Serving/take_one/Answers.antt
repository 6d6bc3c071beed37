use Rattle.std.proofs.Common.{subst, rules, refl, ap, ◌≡◌, ◌∙◌, Ok, Some}
use Rattle.xa_frame.specs.Reader.{Answered}
use Rattle.xa_child.proofs.ServingSteps.{answers_step}
use Rattle.xa_child.proofs.serving.Serving.take_one.Goals as goal

pub returns-in-Ok-Some-clause-step : goal.returns-in-Ok-Some-clause-step
returns-in-Ok-Some-clause-step c =
    let some : c.in-Ok-Some.field-0 ≡ Some c.in-Ok-Some.frame = c.in-Ok-Some.field-0-is in
    let ok : c.next.result ≡ Ok c.in-Ok-Some.field-0 = c.in-Ok-Some.is in
    let found : c.next.result ≡ Ok (Some c.in-Ok-Some.frame) = ok ∙ ap Ok some in
    let took = subst (Answered c.args.self.now.reader c.next.new.self) found c.next.ensures.answered in
    answers_step c.args.self.now (record c.args.self.now { reader = c.next.new.self }) c.answer.new.self c.in-Ok-Some.frame c.args.due.now.items c.answer.new.due.items c.answer.result (search rules) took refl c.answer.ensures.same (search rules)
