use Rattle.std.proofs.Common.{Ok, refl, ◌∙◌, ap, subst}
use Rattle.xa_server.specs.xa_held.Kept.{Kept, Becomes}
use Rattle.xa_server.specs.xa_held.Steps.{SweptAs}
use Rattle.xa_server.specs.xa_caller.declared.cargo.Filling.{Filling}
use Rattle.xa_server.specs.declared.closing.Closing.{Closing}
use Rattle.xa_desk.specs.declared.desk.Desk.{Desk}
use Rattle.xa_desk.proofs.Falling.{fallen_here, falls_still, falls_swept, swept_goes}
use Rattle.xa_desk.proofs.Visiting.{looked_leads, looked_last}
use Rattle.xa_desk.proofs.Entering.{lent, may_leave, visited, none_ours, one_ours, sweep_adds}
use Rattle.xa_desk.proofs.desk.Desk.sweep.Goals as goal

pub sweep-answer-requires-clause-down : goal.sweep-answer-requires-clause-down
sweep-answer-requires-clause-down g c =
    let at = lent (c.enter-visit.ensures.at c.args.self.now c.requires.desk refl) refl c.value.ensures.value in
    fallen_here at c.requires.fallen.0

pub leave-last-requires-clause-at : goal.leave-last-requires-clause-at
leave-last-requires-clause-at g c = may_leave (c.enter-visit.ensures.at c.args.self.now c.requires.desk refl) refl c.value.ensures.value (sweep_adds c.args.self.now c.stamp-seen.result c.id-maker.result c.id-maker.ensures.value c.sweep-answer.result c.sweep-answer.ensures)

pub returns-in-Ok-None : goal.returns-in-Ok-None
returns-in-Ok-None g c =
    let new : Desk = record c.args.self.now { caller = c.saw.new.self; queues = c.leave-last.new.passes } in
    let v = visited (c.enter-visit.ensures.at c.args.self.now c.requires.desk refl) refl c.value.ensures.value c.leave-last.ensures.left new refl refl refl (none_ours c.args.self.now) (subst (SweptAs (Becomes c.value.result.now c.sweep-answer.new.self) c.stamp-seen.result c.id-maker.result) (c.in-Ok-None.is ∙ ap Ok c.in-Ok-None.field-0-is) c.sweep-answer.ensures) in
    let leads = looked_leads v.step v.came c.saw.ensures in
    record { leads = leads; swept = ((c.leave-last.result, c.saw.ensures), falls_swept v.step v.came leads.desk c.requires.fallen.0 (ap (λ (kept : Kept Filling). kept.queue.waiting) v.came.how.0 ∙ v.came.how.1)); fallen = falls_still v.step v.came leads c.requires.fallen.0; board = (refl, refl) }

pub returns-in-Err : goal.returns-in-Err
returns-in-Err g c =
    let new : Desk = record c.args.self.now { caller = c.saw-in-Err.new.self; queues = c.leave-last.new.passes } in
    let v = visited (c.enter-visit.ensures.at c.args.self.now c.requires.desk refl) refl c.value.ensures.value c.leave-last.ensures.left new refl refl refl (none_ours c.args.self.now) (subst (SweptAs (Becomes c.value.result.now c.sweep-answer.new.self) c.stamp-seen.result c.id-maker.result) c.in-Err.is c.sweep-answer.ensures) in
    let leads = looked_leads v.step v.came c.saw-in-Err.ensures in
    record {
      leads = leads;
      swept = looked_last v.step v.came c.saw-in-Err.ensures c.stamp-seen.result c.in-Err.worn c.stamp-seen.ensures.value v.came.how.1.0;
      fallen = falls_still v.step v.came leads c.requires.fallen.0;
      board = (refl, refl);
    }

pub returns-in-Ok-Some : goal.returns-in-Ok-Some
returns-in-Ok-Some g c =
    let new : Desk = record c.args.self.now { caller = c.noted_for_domain.new.self; queues = c.leave-last.new.passes } in
    let v = visited (c.enter-visit.ensures.at c.args.self.now c.requires.desk refl) refl c.value.ensures.value c.leave-last.ensures.left new refl refl refl (one_ours c.args.self.now c.id-maker.result c.in-Ok-Some.out.noted.stamp c.in-Ok-Some.out.noted.event.value c.id-maker.ensures.value) (subst (SweptAs (Becomes c.value.result.now c.sweep-answer.new.self) c.stamp-seen.result c.id-maker.result) (c.in-Ok-Some.is ∙ ap Ok c.in-Ok-Some.field-0-is) c.sweep-answer.ensures) in
    let swept = swept_goes v.step c.stamp-seen.result c.id-maker.result c.stamp-seen.ensures.value c.in-Ok-Some.out v.came c.noted_for_domain.ensures.noted c.requires.fallen.0.last c.swept.result c.swept.ensures in
    record { leads = swept.0; swept = (swept.1, swept.2, swept.3, record { request = c.in-Ok-Some.out.entry.request; its = ap (λ (x : Closing). x.request) c.swept.ensures; stamp = c.in-Ok-Some.out.noted.stamp; noted = swept.4; answer = ap (λ (x : Closing). x.answer) c.swept.ensures }); fallen = falls_still v.step v.came swept.0 c.requires.fallen.0; board = (refl, refl) }
