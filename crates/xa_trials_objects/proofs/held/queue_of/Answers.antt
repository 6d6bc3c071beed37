use Rattle.xa_trials_objects.proofs.Working.{made_serves}
use Rattle.xa_trials_objects.proofs.held.queue_of.Goals as goal

pub returns : goal.returns
returns g c = made_serves c.args.cells.now c.args.id.0 c.in-Ok.queue c.of.result c.in-Ok.ensures c.of.ensures
