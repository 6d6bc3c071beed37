use Rattle.std.proofs.Common.{refl, ◌∙◌, ap, subst}
use Rattle.xa_server.specs.xa_held.Kept.{Becomes}
use Rattle.xa_server.specs.xa_held.Steps.{GaveUpAs}
use Rattle.xa_server.specs.xa_worker.Work.{WorkState}
use Rattle.xa_desk.specs.declared.desk.Desk.{Desk}
use Rattle.xa_desk.proofs.Leaving.{leaves}
use Rattle.xa_desk.proofs.Taking.{own_here, maker_here, left_here, looks_serve}
use Rattle.xa_desk.proofs.Visiting.{looked_leads, looked_last}
use Rattle.xa_desk.proofs.Entering.{lent, may_leave, visited, none_ours, one_ours, gone_adds}
use Rattle.xa_desk.proofs.desk.Desk.leave_queue.Goals as goal

pub gone-answer-requires-clause-own : goal.gone-answer-requires-clause-own
gone-answer-requires-clause-own g c =
    let at = lent (c.enter-visit.ensures.at c.args.self.now c.requires.desk refl) refl c.value.ensures.value in
    own_here at c.requires.serving c.id-maker.result c.server.result c.id-maker.ensures.value c.server.ensures

pub gone-answer-requires-clause-maker : goal.gone-answer-requires-clause-maker
gone-answer-requires-clause-maker g c =
    let at = lent (c.enter-visit.ensures.at c.args.self.now c.requires.desk refl) refl c.value.ensures.value in
    maker_here at c.requires.serving c.id-maker.result c.server.result c.id-maker.ensures.value c.server.ensures

pub gone-answer-requires-clause-left : goal.gone-answer-requires-clause-left
gone-answer-requires-clause-left g c =
    let at = lent (c.enter-visit.ensures.at c.args.self.now c.requires.desk refl) refl c.value.ensures.value in
    left_here at c.requires.serving c.id-maker.result c.server.result c.id-maker.ensures.value c.server.ensures c.requires.left

pub leave-last-requires-clause-at : goal.leave-last-requires-clause-at
leave-last-requires-clause-at g c = may_leave (c.enter-visit.ensures.at c.args.self.now c.requires.desk refl) refl c.value.ensures.value (gone_adds c.args.self.now c.stamp-seen.result c.id-maker.result c.id-maker.ensures.value c.server.result c.gone-answer.result c.gone-answer.ensures)

pub returns-in-Ok : goal.returns-in-Ok
returns-in-Ok g c =
    let new : Desk = record c.args.self.now { caller = c.given_up.new.caller; queues = c.leave-last.new.passes } in
    let v = visited (c.enter-visit.ensures.at c.args.self.now c.requires.desk refl) refl c.value.ensures.value c.leave-last.ensures.left new refl refl refl (one_ours c.args.self.now c.id-maker.result c.in-Ok.field-0.noted.stamp c.in-Ok.field-0.noted.event.value c.id-maker.ensures.value) (subst (GaveUpAs (Becomes c.value.result.now c.gone-answer.new.self) c.stamp-seen.result c.id-maker.result c.server.result) c.in-Ok.is c.gone-answer.ensures) in
    let caller = c.given_up.ensures.rest ∙ ap (λ (w : WorkState). record c.args.self.now.caller { work = w }) c.given_up.ensures.noted in
    let left = leaves v.step c.requires.serving c.stamp-seen.result c.id-maker.result c.server.result c.in-Ok.field-0 c.stamp-seen.ensures.value c.server.ensures v.came caller c.given_up.new.self c.given_up.ensures.stands c.given_up.ensures.slot in
    record { leads = left.0; serving = left.1; gone = left.2; board = (refl, refl) }

pub returns-in-Err : goal.returns-in-Err
returns-in-Err g c =
    let new : Desk = record c.args.self.now { caller = c.saw.new.self; queues = c.leave-last.new.passes } in
    let v = visited (c.enter-visit.ensures.at c.args.self.now c.requires.desk refl) refl c.value.ensures.value c.leave-last.ensures.left new refl refl refl (none_ours c.args.self.now) (subst (GaveUpAs (Becomes c.value.result.now c.gone-answer.new.self) c.stamp-seen.result c.id-maker.result c.server.result) c.in-Err.is c.gone-answer.ensures) in
    record {
      leads = looked_leads v.step v.came c.saw.ensures;
      serving = looks_serve v.step c.requires.serving v.came c.saw.ensures;
      gone = (refl, looked_last v.step v.came c.saw.ensures c.stamp-seen.result c.in-Err.worn c.stamp-seen.ensures.value v.came.how.1);
      board = (refl, refl);
    }
