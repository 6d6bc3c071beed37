use Rattle.std.proofs.Common.{◌≡◌, sym, ap, ◌∙◌, subst}
use Rattle.xa_lock.specs.Known.{known, found}
use Rattle.xa_lock.specs.Makers.{maker_of}
use Rattle.xa_lock.specs.Pages.{Knows, page_seeing}
use Rattle.xa_stamp.specs.Home.{last_stamp}
use Rattle.xa_worker.specs.Crew.{no_stamp}
use Rattle.xa_ticks.specs.Clock.{ClockState, ReadsAsNoted, made_in}
use Rattle.xa_ticks.proofs.Passing.{told_in, turned, grown, reaches, its, ticked}
use Rattle.xa_ticks.proofs.visits.tick_at.Goals as goal

pub leave-requires-clause-grew : goal.leave-requires-clause-grew
leave-requires-clause-grew g c =
    let p = known c.args.pass in
    let old : ClockState = c.value.result.now in
    let new : ClockState = c.advance-answer.new.self in
    let r = c.advance-answer.result in
    let sees = c.enter-held.ensures.found ∙ ap (λ (z : ClockState). page_seeing p (made_in z.entries)) (sym c.value.ensures.value) in
    let knows = subst (λ (z : ClockState). Knows maker_of p (made_in z.entries)) (sym c.value.ensures.value) c.enter-held.ensures.knows in
    let grew = turned c.args.seen c.args.by c.args.op c.args.n old new r c.advance-answer.ensures.moved c.advance-answer.ensures.kept in
    grown p (found c.enter-held.result) old new (told_in c.args.by c.args.op r) sees knows grew (its c.args.by c.args.op p.maker r c.requires.maker)

pub returns-clause-reached : goal.returns-clause-reached
returns-clause-reached g c =
    let p = known c.args.pass in
    let old : ClockState = c.value.result.now in
    let new : ClockState = c.advance-answer.new.self in
    let r = c.advance-answer.result in
    let sees = c.enter-held.ensures.found ∙ ap (λ (z : ClockState). page_seeing p (made_in z.entries)) (sym c.value.ensures.value) in
    let knows = subst (λ (z : ClockState). Knows maker_of p (made_in z.entries)) (sym c.value.ensures.value) c.enter-held.ensures.knows in
    let grew = turned c.args.seen c.args.by c.args.op c.args.n old new r c.advance-answer.ensures.moved c.advance-answer.ensures.kept in
    let reads = subst (λ (z : ClockState). ReadsAsNoted z) c.get.ensures c.stamp-last.ensures.reads in
    let is = subst (λ (z : ClockState). c.stamp-last.result.0 ≡ last_stamp no_stamp z.entries) c.get.ensures c.stamp-last.ensures.value in
    reaches p (found c.enter-held.result) old new (told_in c.args.by c.args.op r) sees knows grew (known c.leave.result) c.leave.ensures.known reads c.stamp-last.result is c.stamp-last.ensures.bound

pub returns-clause-ticked : goal.returns-clause-ticked
returns-clause-ticked g c =
    let p = known c.args.pass in
    let old : ClockState = c.value.result.now in
    let new : ClockState = c.advance-answer.new.self in
    let sees = c.enter-held.ensures.found ∙ ap (λ (z : ClockState). page_seeing p (made_in z.entries)) (sym c.value.ensures.value) in
    let knows = subst (λ (z : ClockState). Knows maker_of p (made_in z.entries)) (sym c.value.ensures.value) c.enter-held.ensures.knows in
    let reads = subst (λ (z : ClockState). ReadsAsNoted z) c.get.ensures c.stamp-last.ensures.reads in
    ticked p (found c.enter-held.result) (known c.leave.result) old new c.args.seen c.args.by c.args.op c.args.n c.advance-answer.result sees knows c.leave.ensures.known reads
    c.advance-answer.ensures.moved c.advance-answer.ensures.allowed c.advance-answer.ensures.refused c.advance-answer.ensures.kept
