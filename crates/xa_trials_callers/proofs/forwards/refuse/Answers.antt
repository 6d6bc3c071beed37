use Rattle.std.specs.Prelude.{Some}
use Rattle.xa_trials_callers.proofs.Forwarding.{fails_over}
use Rattle.xa_trials_callers.proofs.forwards.refuse.Goals as goal

pub returns : goal.returns
returns g c =
    fails_over c.args.setup.now c.args.cells.now 256 c.in-Ok.closing c.forward_refused.new.self (record c.args.worker.now.slot { hand = Some c.args.entry }) c.forward_refused.new.caller c.args.worker.now.caller
    c.requires.between c.requires.ticket c.in-Ok.ensures.ok c.forward_refused.ensures.stands
