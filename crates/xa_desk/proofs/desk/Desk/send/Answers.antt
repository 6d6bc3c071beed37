use Rattle.std.proofs.Common.{refl, sym, ◌∙◌, ap, subst}
use Rattle.xa_server.specs.xa_held.Kept.{Becomes}
use Rattle.xa_server.specs.xa_held.Steps.{PutAs}
use Rattle.xa_server.specs.xa_caller.Caller.{CallerState}
use Rattle.xa_server.specs.xa_caller.Phases.{just_in}
use Rattle.xa_desk.specs.declared.desk.Desk.{Desk}
use Rattle.xa_desk.proofs.Fitting.{no_more_fits}
use Rattle.xa_desk.proofs.Sending.{is_accept, brings, in_range, put_here, sent_leads, sent_fits, shows_why, sees_why, may_have}
use Rattle.xa_desk.proofs.Visiting.{looked_grew, looked_leads}
use Rattle.xa_desk.proofs.Entering.{lent, may_leave, visited, none_ours, one_ours, put_adds}
use Rattle.xa_desk.proofs.desk.Desk.send.Goals as goal

pub queue_of-queue-requires : goal.queue_of-queue-requires
queue_of-queue-requires g c = let f = c.requires.found in is_accept f.0 f.2 f.3

pub put-answer-requires-clause-priority : goal.put-answer-requires-clause-priority
put-answer-requires-clause-priority g c = let f = c.requires.found in in_range f.0 f.2 f.3 c.requires.domain

pub put-answer-requires-clause-brings : goal.put-answer-requires-clause-brings
put-answer-requires-clause-brings g c = let f = c.requires.found in brings f.0 f.2 f.3

pub put-answer-requires-clause-event : goal.put-answer-requires-clause-event
put-answer-requires-clause-event g c =
    let f = c.requires.found in
    let at = lent (c.enter-visit.ensures.at c.args.self.now c.requires.desk refl) c.queue_of-queue.ensures c.value.ensures.value in
    (put_here f.0 f.2 f.3 at).0

pub put-answer-requires-clause-right : goal.put-answer-requires-clause-right
put-answer-requires-clause-right g c =
    let f = c.requires.found in
    let at = lent (c.enter-visit.ensures.at c.args.self.now c.requires.desk refl) c.queue_of-queue.ensures c.value.ensures.value in
    (put_here f.0 f.2 f.3 at).1

pub leave-last-requires-clause-at : goal.leave-last-requires-clause-at
leave-last-requires-clause-at g c = may_leave (c.enter-visit.ensures.at c.args.self.now c.requires.desk refl) c.queue_of-queue.ensures c.value.ensures.value (put_adds c.args.self.now c.stamp-seen.result c.id-maker.result c.id-maker.ensures.value c.args.prepared.event c.args.prepared.entry c.put-answer.result c.put-answer.ensures)

pub returns-in-Ok : goal.returns-in-Ok
returns-in-Ok g c =
    let f = c.requires.found in
    let new : Desk = record c.args.self.now { caller = c.mark_sent.new.caller; queues = c.leave-last.new.passes } in
    let v = visited (c.enter-visit.ensures.at c.args.self.now c.requires.desk refl) c.queue_of-queue.ensures c.value.ensures.value c.leave-last.ensures.left new refl refl refl (one_ours c.args.self.now c.id-maker.result c.in-Ok.stamp c.args.prepared.event c.id-maker.ensures.value) (subst (PutAs (Becomes c.value.result.now c.put-answer.new.self) c.stamp-seen.result c.id-maker.result c.args.prepared.event c.args.prepared.entry) c.in-Ok.is c.put-answer.ensures) in
    record {
      leads = sent_leads f.0 f.2 f.3 v.step c.stamp-seen.result c.stamp-seen.ensures.value c.id-maker.result c.args.apart c.in-Ok.stamp v.came c.mark_sent.ensures;
      sent = (c.in-Ok.stamp, c.mark_sent.ensures);
      fits = λ ask valid has aimed. sent_fits ask has aimed v.step c.stamp-seen.result c.stamp-seen.ensures.value c.id-maker.result c.args.apart c.in-Ok.stamp v.came c.mark_sent.ensures valid;
      reader = refl;
      board = refl;
      queue = c.queue_of-queue.ensures;
      back = tt;
      shut = tt;
      kept = tt;
      why = tt;
      seen = tt;
    }

pub returns-in-Err : goal.returns-in-Err
returns-in-Err g c =
    let f = c.requires.found in
    let new : Desk = record c.args.self.now { caller = c.saw.new.self; queues = c.leave-last.new.passes } in
    let put = subst (PutAs (Becomes c.value.result.now c.put-answer.new.self) c.stamp-seen.result c.id-maker.result c.args.prepared.event c.args.prepared.entry) c.in-Err.is c.put-answer.ensures in
    let v = visited (c.enter-visit.ensures.at c.args.self.now c.requires.desk refl) c.queue_of-queue.ensures c.value.ensures.value c.leave-last.ensures.left new refl refl refl (none_ours c.args.self.now) put.1 in
    let leads = looked_leads v.step v.came c.saw.ensures in
    record {
      leads = leads;
      sent = tt;
      fits = λ ask valid has aimed ops its. no_more_fits c.args.domain.now c.args.self.now new leads (looked_grew v.step v.came c.saw.ensures) (λ none. sym (ap (λ (k : CallerState). just_in k.phase) c.saw.ensures) ∙ none) ops;
      reader = refl;
      board = refl;
      queue = tt;
      back = put.0;
      shut = c.queue_of-queue.ensures;
      kept = (c.leave-last.result, c.saw.ensures);
      why = shows_why v.step c.stamp-seen.result c.in-Err.refused.why v.came c.saw.ensures c.requires.domain (may_have c.args.self.now c.requires.active) c.stamp-seen.ensures.value;
      seen = sees_why v.step c.stamp-seen.result c.in-Err.refused.why v.came c.saw.ensures c.requires.domain (may_have c.args.self.now c.requires.active) c.stamp-seen.ensures.value;
    }
