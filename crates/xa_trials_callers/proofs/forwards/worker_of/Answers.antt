use Rattle.std.proofs.Common.{◌≡◌, ◌≤◌, sym, ◌∙◌, ap, subst}
use Rattle.std.specs.Prelude.{Some}
use Rattle.xa_types.specs.declared.setup.ServerSetup.{ServerSetup}
use Rattle.xa_types.specs.declared.setup.Setup.{Setup}
use Rattle.xa_types.specs.Setup.{numbered}
use Rattle.xa_events.specs.Board.{boot}
use Rattle.xa_worker.specs.Work.{WorkState}
use Rattle.xa_caller.specs.Caller.{CallerState}
use Rattle.xa_trials_callers.proofs.Calling.{boot_few}
use Rattle.xa_trials_callers.proofs.Forwarding.{first_stands, first_may}
use Rattle.xa_trials_callers.proofs.forwards.worker_of.Goals as goal

pub new-caller-requires-clause-least : goal.new-caller-requires-clause-least
new-caller-requires-clause-least g c = subst (λ (s : Setup). boot s ≤ 256) (sym (ap (λ (w : WorkState). w.setup) c.new-work.ensures)) (boot_few c.args.setup.now c.requires.configured)

pub started-requires-clause-stands : goal.started-requires-clause-stands
started-requires-clause-stands g c =
    let server : ServerSetup = c.in-Some.server.now in
    first_stands c.args.setup.now server c.in-Ok.restarts c.new-caller.result.work (ap (λ (s : CallerState). s.work) c.new-caller.ensures ∙ c.new-work.ensures) c.in-Ok.ensures c.new-slot.result c.new-slot.ensures
    (subst (λ servers. numbered 1 servers ≡ Some server) c.slice.ensures (sym c.in-Some.ensures.value))

pub started-requires-clause-may : goal.started-requires-clause-may
started-requires-clause-may g c =
    first_may c.args.setup.now c.in-Some.server.now c.in-Ok.restarts c.new-caller.result.work (ap (λ (s : CallerState). s.work) c.new-caller.ensures ∙ c.new-work.ensures) c.in-Ok.ensures c.new-slot.result c.new-slot.ensures
    c.may_start.result c.may_start.ensures c.if-not-may_start.false
