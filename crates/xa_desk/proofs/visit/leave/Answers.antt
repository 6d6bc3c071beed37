use Rattle.std.proofs.Common.{◌∙◌, ap, subst}
use Rattle.std.specs.Prelude.{slice_set, Some}
use Rattle.std.proofs.lemmas.List.{get_or_default}
use Rattle.xa_server.specs.xa_lock.Known.{found, value_of, known as page_of, IsPassOf}
use Rattle.xa_server.specs.xa_held.Kept.{Kept}
use Rattle.xa_server.specs.xa_caller.declared.cargo.Filling.{Filling}
use Rattle.xa_server.specs.xa_queue.Queue.{IsSound}
use Rattle.xa_server.specs.xa_queue.Reading.{ReadsAsNoted}
use Rattle.xa_server.proofs.xa_held.Passing.{reaches}
use Rattle.xa_desk.specs.Visit.{QueueLock}
use Rattle.xa_desk.proofs.Entering.{grown, visits}
use Rattle.xa_desk.proofs.visit.leave.Goals as goal

pub leave-pass-requires-clause-grew : goal.leave-pass-requires-clause-grew
leave-pass-requires-clause-grew c = let at = c.requires.at in grown at.4 (value_of c.args.visit.queue) at.3 at.5

pub returns : goal.returns
returns c = record {
  left = λ queue old there at.
      let now : Kept Filling = value_of c.args.visit.queue in
      let k = c.args.visit.place in
      let back = c.leave-pass.result in
      record {
        is = at.is;
        pass = at.pass;
        has = at.has;
        back = back;
        passes = c.put_back.ensures ∙ ap (λ l. slice_set l k (Some back)) at.taken;
        lock = λ default. subst (λ (z : QueueLock). IsPassOf z back) (c.index.ensures ∙ get_or_default c.args.domain.now.queues.items k c.index.result.now default at.has.low) c.leave-pass.ensures.lock;
        reaches = reaches (found c.args.visit.queue) (page_of back) now c.get.result.now c.stamp-last.result c.get.ensures c.leave-pass.ensures.known c.stamp-last.ensures.sound c.stamp-last.ensures.value c.stamp-last.ensures.bound;
        visits = λ more adds. visits at now more adds (page_of back) c.leave-pass.ensures.known (subst (λ (q : Kept Filling). IsSound q.queue) c.get.ensures c.stamp-last.ensures.sound) (subst (λ (q : Kept Filling). ReadsAsNoted q.queue) c.get.ensures c.stamp-last.ensures.reads);
      };
}
