use Rattle.std.proofs.Common.{Ok, refl, ◌∙◌, ap, subst}
use Rattle.xa_server.specs.xa_held.Kept.{Kept, Becomes}
use Rattle.xa_server.specs.xa_held.Steps.{TookAs}
use Rattle.xa_server.specs.xa_worker.Work.{WorkState}
use Rattle.xa_server.specs.xa_caller.declared.cargo.Filling.{Filling}
use Rattle.xa_desk.specs.declared.desk.Desk.{Desk}
use Rattle.xa_desk.proofs.Requests.{took_goes}
use Rattle.xa_desk.proofs.Taking.{own_here, maker_here, left_here, looks_serve, looks_shut, looks_empty}
use Rattle.xa_desk.proofs.Visiting.{looked_leads, looked_last}
use Rattle.xa_desk.proofs.Entering.{lent, may_leave, visited, none_ours, one_ours, take_adds}
use Rattle.xa_desk.proofs.desk.Desk.take.Goals as goal

pub take-answer-requires-clause-own : goal.take-answer-requires-clause-own
take-answer-requires-clause-own g c =
    let at = lent (c.enter-visit.ensures.at c.args.self.now c.requires.desk refl) refl c.value.ensures.value in
    own_here at c.requires.serving c.id-maker.result c.server.result c.id-maker.ensures.value c.server.ensures

pub take-answer-requires-clause-maker : goal.take-answer-requires-clause-maker
take-answer-requires-clause-maker g c =
    let at = lent (c.enter-visit.ensures.at c.args.self.now c.requires.desk refl) refl c.value.ensures.value in
    maker_here at c.requires.serving c.id-maker.result c.server.result c.id-maker.ensures.value c.server.ensures

pub take-answer-requires-clause-left : goal.take-answer-requires-clause-left
take-answer-requires-clause-left g c =
    let at = lent (c.enter-visit.ensures.at c.args.self.now c.requires.desk refl) refl c.value.ensures.value in
    left_here at c.requires.serving c.id-maker.result c.server.result c.id-maker.ensures.value c.server.ensures c.requires.left

pub leave-last-requires-clause-at : goal.leave-last-requires-clause-at
leave-last-requires-clause-at g c = may_leave (c.enter-visit.ensures.at c.args.self.now c.requires.desk refl) refl c.value.ensures.value (take_adds c.args.self.now c.stamp-seen.result c.id-maker.result c.id-maker.ensures.value c.server.result c.life.result c.take-answer.result c.take-answer.ensures)

pub returns-in-Ok-Empty : goal.returns-in-Ok-Empty
returns-in-Ok-Empty g c =
    let new : Desk = record c.args.self.now { caller = c.saw.new.self; queues = c.leave-last.new.passes } in
    let v = visited (c.enter-visit.ensures.at c.args.self.now c.requires.desk refl) refl c.value.ensures.value c.leave-last.ensures.left new refl refl refl (none_ours c.args.self.now) (subst (TookAs (Becomes c.value.result.now c.take-answer.new.self) c.stamp-seen.result c.id-maker.result c.server.result c.life.result) (c.in-Ok-Empty.is ∙ ap Ok c.in-Ok-Empty.field-0-is) c.take-answer.ensures) in
    let nothing = looks_empty v.step c.requires.serving v.came c.saw.ensures (ap (λ (kept : Kept Filling). kept.queue.waiting) v.came.how.0 ∙ v.came.how.1.0) (ap (λ (kept : Kept Filling). kept.queue.closed) v.came.how.0 ∙ v.came.how.1.1) in
    record { leads = looked_leads v.step v.came c.saw.ensures; serving = looks_serve v.step c.requires.serving v.came c.saw.ensures; taken = (refl, (c.leave-last.result, c.saw.ensures), nothing); board = (refl, refl) }

pub returns-in-Ok-Closed : goal.returns-in-Ok-Closed
returns-in-Ok-Closed g c =
    let new : Desk = record c.args.self.now { caller = c.saw-in-Ok-Closed.new.self; queues = c.leave-last.new.passes } in
    let v = visited (c.enter-visit.ensures.at c.args.self.now c.requires.desk refl) refl c.value.ensures.value c.leave-last.ensures.left new refl refl refl (none_ours c.args.self.now) (subst (TookAs (Becomes c.value.result.now c.take-answer.new.self) c.stamp-seen.result c.id-maker.result c.server.result c.life.result) (c.in-Ok-Closed.is ∙ ap Ok c.in-Ok-Closed.field-0-is) c.take-answer.ensures) in
    let shut = looks_shut v.step c.requires.serving v.came c.saw-in-Ok-Closed.ensures (ap (λ (kept : Kept Filling). kept.queue.waiting) v.came.how.0 ∙ v.came.how.1.0) (ap (λ (kept : Kept Filling). kept.queue.closed) v.came.how.0 ∙ v.came.how.1.1) in
    record { leads = looked_leads v.step v.came c.saw-in-Ok-Closed.ensures; serving = looks_serve v.step c.requires.serving v.came c.saw-in-Ok-Closed.ensures; taken = (refl, (c.leave-last.result, c.saw-in-Ok-Closed.ensures), shut); board = (refl, refl) }

pub returns-in-Err : goal.returns-in-Err
returns-in-Err g c =
    let new : Desk = record c.args.self.now { caller = c.saw-in-Err.new.self; queues = c.leave-last.new.passes } in
    let v = visited (c.enter-visit.ensures.at c.args.self.now c.requires.desk refl) refl c.value.ensures.value c.leave-last.ensures.left new refl refl refl (none_ours c.args.self.now) (subst (TookAs (Becomes c.value.result.now c.take-answer.new.self) c.stamp-seen.result c.id-maker.result c.server.result c.life.result) c.in-Err.is c.take-answer.ensures) in
    record {
      leads = looked_leads v.step v.came c.saw-in-Err.ensures;
      serving = looks_serve v.step c.requires.serving v.came c.saw-in-Err.ensures;
      taken = (refl, looked_last v.step v.came c.saw-in-Err.ensures c.stamp-seen.result c.in-Err.worn c.stamp-seen.ensures.value v.came.how.1.0);
      board = (refl, refl);
    }

pub returns-in-Ok-Request : goal.returns-in-Ok-Request
returns-in-Ok-Request g c =
    let old = c.args.self.now.caller in
    let out = c.in-Ok-Request.out in
    let new : Desk = record c.args.self.now { caller = c.begin.new.caller; queues = c.leave-last.new.passes } in
    let v = visited (c.enter-visit.ensures.at c.args.self.now c.requires.desk refl) refl c.value.ensures.value c.leave-last.ensures.left new refl refl refl (one_ours c.args.self.now c.id-maker.result out.noted.stamp out.noted.event.value c.id-maker.ensures.value) (subst (TookAs (Becomes c.value.result.now c.take-answer.new.self) c.stamp-seen.result c.id-maker.result c.server.result c.life.result) (c.in-Ok-Request.is ∙ ap Ok c.in-Ok-Request.field-0-is) c.take-answer.ensures) in
    let caller = c.begin.ensures.rest ∙ ap (λ (w : WorkState). record old { work = w }) c.begin.ensures.noted in
    let goes = took_goes v.step c.requires.serving c.stamp-seen.result c.id-maker.result c.server.result c.life.result out c.stamp-seen.ensures.value c.id-maker.ensures.value c.server.ensures v.came caller c.life.ensures c.begin.new.self c.begin.ensures.stands c.begin.ensures.slot in
    record { leads = goes.0; serving = goes.1; taken = goes.2; board = (refl, refl) }
