use Rattle.xa_events.specs.declared.event.StopCause.TheVariants.{Starved}
use Rattle.xa_trials_callers.proofs.Forwarding.{death_over}
use Rattle.xa_trials_callers.proofs.forwards.starve.Goals as goal

pub returns : goal.returns
returns g c =
    death_over c.args.setup.now c.args.cells.now Starved c.args.entry c.args.event c.in-Ok.closing c.died.new.self c.retake.new.self c.args.worker.now.slot c.died.new.caller c.args.worker.now.caller c.requires
    c.retake.ensures.hand c.died.ensures.rest c.died.ensures.stands c.in-Ok.ensures.ok
