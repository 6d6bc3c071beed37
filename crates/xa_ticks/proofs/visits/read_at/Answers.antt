use Rattle.std.proofs.Common.{[], sym, ap, ◌∙◌, subst, append-nil}
use Rattle.xa_lock.specs.Known.{known, found}
use Rattle.xa_lock.specs.Makers.{maker_of}
use Rattle.xa_lock.specs.Pages.{Knows, page_seeing, page_leaving}
use Rattle.xa_ticks.specs.Clock.{ClockState, made_in}
use Rattle.xa_ticks.proofs.Passing.{reaches}
use Rattle.xa_ticks.proofs.visits.read_at.Goals as goal

pub returns-clause-reached : goal.returns-clause-reached
returns-clause-reached g c =
    let p = known c.args.pass in
    let new : ClockState = c.get-2.result.now in
    let sees = c.enter-held.ensures.found ∙ ap (λ (z : ClockState). page_seeing p (made_in z.entries)) (sym c.get-2.ensures) in
    let knows = subst (λ (z : ClockState). Knows maker_of p (made_in z.entries)) (sym c.get-2.ensures) c.enter-held.ensures.knows in
    let left = c.leave.ensures.known ∙ ap (λ (z : ClockState). page_leaving (found c.enter-held.result) (made_in z.entries)) (sym c.get-2.ensures) in
    reaches p (found c.enter-held.result) new new [] sees knows (sym (append-nil new.entries)) (known c.leave.result) left c.stamp-last.ensures.reads c.stamp-last.result c.stamp-last.ensures.value c.stamp-last.ensures.bound
