use Rattle.std.proofs.Common.{refl, sym, ◌∙◌, subst}
use Rattle.xa_server.specs.xa_types.Found.{FoundRows}
use Rattle.xa_server.specs.xa_events.declared.event.Event.{Event}
use Rattle.xa_server.specs.xa_held.Kept.{Becomes}
use Rattle.xa_server.specs.xa_held.Steps.{PutAs}
use Rattle.xa_server.specs.Forwarding.{IsOnWay, GoesOn}
use Rattle.xa_desk.specs.declared.desk.Desk.{Desk}
use Rattle.xa_desk.proofs.Passes.{in_range, put_here, more, passed_leads, passed_serves, still_passing}
use Rattle.xa_desk.proofs.Sending.{shows_why}
use Rattle.xa_desk.proofs.Taking.{its_some}
use Rattle.xa_desk.proofs.Visiting.{looked_leads}
use Rattle.xa_desk.proofs.Entering.{lent, may_leave, visited, none_ours, one_ours, put_adds}
use Rattle.xa_desk.proofs.desk.Desk.pass.Goals as goal

pub put-answer-requires-clause-event : goal.put-answer-requires-clause-event
put-answer-requires-clause-event g c =
    let at = lent (c.enter-visit.ensures.at c.args.self.now c.requires.desk refl) c.queue_of-queue.ensures c.value.ensures.value in
    (put_here c.requires.passing.1 at).0

pub put-answer-requires-clause-right : goal.put-answer-requires-clause-right
put-answer-requires-clause-right g c =
    let at = lent (c.enter-visit.ensures.at c.args.self.now c.requires.desk refl) c.queue_of-queue.ensures c.value.ensures.value in
    (put_here c.requires.passing.1 at).1

pub leave-last-requires-clause-at : goal.leave-last-requires-clause-at
leave-last-requires-clause-at g c = may_leave (c.enter-visit.ensures.at c.args.self.now c.requires.desk refl) c.queue_of-queue.ensures c.value.ensures.value (put_adds c.args.self.now c.stamp-seen.result c.id-maker.result c.id-maker.ensures.value c.args.event c.args.entry c.put-answer.result c.put-answer.ensures)

pub put-answer-requires-clause-priority : goal.put-answer-requires-clause-priority
put-answer-requires-clause-priority g c = in_range c.requires.passing.1 c.requires.domain

pub forwarded-requires-clause-out : goal.forwarded-requires-clause-out
forwarded-requires-clause-out g c = (c.args.entry, subst (λ (e : Event). IsOnWay c.args.entry e c.args.slot.now c.args.self.now.caller) (sym c.of-forwarded.ensures) c.requires.passing.1.way)

pub returns-in-Ok : goal.returns-in-Ok
returns-in-Ok g c =
    let old = c.args.self.now in
    let slot = c.args.slot.now in
    let slot' = c.forwarded.new.self in
    let new : Desk = record old { caller = c.forwarded.new.caller; queues = c.leave-last.new.passes } in
    let v = visited (c.enter-visit.ensures.at c.args.self.now c.requires.desk refl) c.queue_of-queue.ensures c.value.ensures.value c.leave-last.ensures.left new refl refl refl (one_ours c.args.self.now c.id-maker.result c.in-Ok.stamp c.args.event c.id-maker.ensures.value) (subst (PutAs (Becomes c.value.result.now c.put-answer.new.self) c.stamp-seen.result c.id-maker.result c.args.event c.args.entry) c.in-Ok.is c.put-answer.ensures) in
    let goes = subst (λ (found : FoundRows). GoesOn c.in-Ok.stamp found.version c.args.event slot' slot new.caller old.caller) (c.behind-self.view_is ∙ c.found.ensures)
    (subst (λ (e : Event). GoesOn c.in-Ok.stamp c.behind-self.inside.version e slot' slot new.caller old.caller) c.of-forwarded.ensures c.forwarded.ensures.goes) in
    record {
      leads = passed_leads c.requires.passing.1 v.step c.stamp-seen.result c.stamp-seen.ensures.value c.id-maker.result c.in-Ok.stamp v.came slot' goes;
      goes = (c.in-Ok.stamp, more c.requires.passing.1 v.step c.stamp-seen.result c.stamp-seen.ensures.value c.id-maker.result c.in-Ok.stamp v.came slot' goes, goes);
      serving = λ queue passing. passed_serves passing v.step c.stamp-seen.result c.stamp-seen.ensures.value c.id-maker.result c.in-Ok.stamp v.came slot' goes c.forwarded.ensures.stands;
      queue = c.queue_of-queue.ensures;
      back = tt;
      kept = tt;
      passing = λ queue passing. tt;
      why = tt;
      board = (refl, refl);
    }

pub returns-in-Err : goal.returns-in-Err
returns-in-Err g c =
    let new : Desk = record c.args.self.now { caller = c.saw.new.self; queues = c.leave-last.new.passes } in
    let put = subst (PutAs (Becomes c.value.result.now c.put-answer.new.self) c.stamp-seen.result c.id-maker.result c.args.event c.args.entry) c.in-Err.is c.put-answer.ensures in
    let v = visited (c.enter-visit.ensures.at c.args.self.now c.requires.desk refl) c.queue_of-queue.ensures c.value.ensures.value c.leave-last.ensures.left new refl refl refl (none_ours c.args.self.now) put.1 in
    record {
      leads = looked_leads v.step v.came c.saw.ensures;
      goes = tt;
      serving = λ queue passing. tt;
      queue = tt;
      back = (put.0, c.queue_of-queue.ensures);
      kept = (refl, (c.leave-last.result, c.saw.ensures));
      passing = λ queue passing. still_passing passing v.step v.came c.saw.ensures refl;
      why = shows_why v.step c.stamp-seen.result c.in-Err.refused.why v.came c.saw.ensures c.requires.domain (its_some c.requires.passing.1.serving) c.stamp-seen.ensures.value;
      board = (refl, refl);
    }
