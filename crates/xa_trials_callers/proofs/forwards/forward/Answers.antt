use Rattle.xa_trials_callers.proofs.Forwarding.{leaves_out}
use Rattle.xa_trials_callers.proofs.forwards.forward.Goals as goal

pub returns : goal.returns
returns g c =
    leaves_out c.args.setup.now c.args.cells.now c.args.found.now.version c.in-Some-Ok-Ok.payload _ c.in-Ok.forwarding c.finish_forward.new.self c.args.worker.now.slot c.finish_forward.new.caller c.args.worker.now.caller c.requires.holds c.in-Ok.ensures.ok c.in-Ok.ensures.left
