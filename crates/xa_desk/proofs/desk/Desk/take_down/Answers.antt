use Rattle.std.proofs.Common.{Ok, refl, ◌∙◌, ap, subst}
use Rattle.xa_server.specs.xa_held.Kept.{Kept, Becomes}
use Rattle.xa_server.specs.xa_held.Steps.{WentDownAs}
use Rattle.xa_server.specs.xa_caller.declared.cargo.Filling.{Filling}
use Rattle.xa_desk.specs.declared.desk.Desk.{Desk}
use Rattle.xa_desk.proofs.Falling.{deserted_here, falls, fell_goes, of_none}
use Rattle.xa_desk.proofs.Visiting.{looked_leads, looked_last}
use Rattle.xa_desk.proofs.Entering.{lent, may_leave, visited, none_ours, one_ours, down_adds}
use Rattle.xa_desk.proofs.desk.Desk.take_down.Goals as goal

pub down-answer-requires-clause-deserted : goal.down-answer-requires-clause-deserted
down-answer-requires-clause-deserted g c =
    let at = lent (c.enter-visit.ensures.at c.args.self.now c.requires.desk refl) refl c.value.ensures.value in
    deserted_here at c.requires.deserted.0

pub leave-last-requires-clause-at : goal.leave-last-requires-clause-at
leave-last-requires-clause-at g c = may_leave (c.enter-visit.ensures.at c.args.self.now c.requires.desk refl) refl c.value.ensures.value (down_adds c.args.self.now c.stamp-seen.result c.id-maker.result c.id-maker.ensures.value c.down-answer.result c.down-answer.ensures)

pub returns-in-Ok-None : goal.returns-in-Ok-None
returns-in-Ok-None g c =
    let new : Desk = record c.args.self.now { caller = c.saw.new.self; queues = c.leave-last.new.passes } in
    let v = visited (c.enter-visit.ensures.at c.args.self.now c.requires.desk refl) refl c.value.ensures.value c.leave-last.ensures.left new refl refl refl (none_ours c.args.self.now) (subst (WentDownAs (Becomes c.value.result.now c.down-answer.new.self) c.stamp-seen.result c.id-maker.result) (c.in-Ok-None.is ∙ ap Ok c.in-Ok-None.field-0-is) c.down-answer.ensures) in
    let leads = looked_leads v.step v.came c.saw.ensures in
    record { leads = leads; noted = of_none c.args.self.now new c.leave-last.result c.saw.ensures; down = falls v.step v.came leads c.requires.deserted.0.last (ap (λ (kept : Kept Filling). kept.queue.down) v.came.how.0 ∙ v.came.how.1); worn = tt; board = (refl, refl) }

pub returns-in-Err : goal.returns-in-Err
returns-in-Err g c =
    let new : Desk = record c.args.self.now { caller = c.saw-in-Err.new.self; queues = c.leave-last.new.passes } in
    let v = visited (c.enter-visit.ensures.at c.args.self.now c.requires.desk refl) refl c.value.ensures.value c.leave-last.ensures.left new refl refl refl (none_ours c.args.self.now) (subst (WentDownAs (Becomes c.value.result.now c.down-answer.new.self) c.stamp-seen.result c.id-maker.result) c.in-Err.is c.down-answer.ensures) in
    record {
      leads = looked_leads v.step v.came c.saw-in-Err.ensures;
      noted = of_none c.args.self.now new c.leave-last.result c.saw-in-Err.ensures;
      down = tt;
      worn = looked_last v.step v.came c.saw-in-Err.ensures c.stamp-seen.result c.in-Err.worn c.stamp-seen.ensures.value v.came.how.1;
      board = (refl, refl);
    }

pub returns-in-Ok-Some : goal.returns-in-Ok-Some
returns-in-Ok-Some g c =
    let new : Desk = record c.args.self.now { caller = c.noted_for_domain.new.self; queues = c.leave-last.new.passes } in
    let v = visited (c.enter-visit.ensures.at c.args.self.now c.requires.desk refl) refl c.value.ensures.value c.leave-last.ensures.left new refl refl refl (one_ours c.args.self.now c.id-maker.result c.in-Ok-Some.noted.stamp c.in-Ok-Some.noted.event.value c.id-maker.ensures.value) (subst (WentDownAs (Becomes c.value.result.now c.down-answer.new.self) c.stamp-seen.result c.id-maker.result) (c.in-Ok-Some.is ∙ ap Ok c.in-Ok-Some.field-0-is) c.down-answer.ensures) in
    let fell = fell_goes v.step c.stamp-seen.result c.id-maker.result c.stamp-seen.ensures.value c.in-Ok-Some.noted v.came c.noted_for_domain.ensures.noted c.requires.clear c.requires.deserted.0.last in
    record { leads = fell.0; noted = fell.1; down = fell.2; worn = tt; board = (refl, refl) }
