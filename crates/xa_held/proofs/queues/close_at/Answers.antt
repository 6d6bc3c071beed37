use Rattle.xa_lock.specs.Known.{known, found}
use Rattle.xa_held.proofs.Passing.{entered, left, reaches, close_grown, close_visits}
use Rattle.xa_held.proofs.queues.close_at.Goals as goal

pub leave-requires-clause-grew : goal.leave-requires-clause-grew
leave-requires-clause-grew g c =
    let at = entered (known c.args.pass) (found c.enter-held.result) c.value.result.now _ c.value.ensures.value c.enter-held.ensures.found c.enter-held.ensures.knows in
    close_grown at c.close-answer.new.self c.args.seen c.args.maker c.requires.maker c.close-answer.result c.close-answer.ensures

pub returns-clause-closed : goal.returns-clause-closed
returns-clause-closed g c =
    let at = entered (known c.args.pass) (found c.enter-held.result) c.value.result.now _ c.value.ensures.value c.enter-held.ensures.found c.enter-held.ensures.knows in
    let on = left (found c.enter-held.result) (known c.leave.result) c.close-answer.new.self _ c.get.ensures c.leave.ensures.known c.stamp-last.ensures.sound c.stamp-last.ensures.reads in
    close_visits at on c.args.seen c.args.maker c.close-answer.result c.close-answer.ensures

pub returns-clause-reached : goal.returns-clause-reached
returns-clause-reached g c = reaches (found c.enter-held.result) (known c.leave.result) c.close-answer.new.self _ c.stamp-last.result c.get.ensures c.leave.ensures.known c.stamp-last.ensures.sound c.stamp-last.ensures.value c.stamp-last.ensures.bound
