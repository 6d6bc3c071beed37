use Rattle.xa_events.proofs.Merge.{local_is_run}
use Rattle.xa_events.proofs.laws.local_is_run.Goals as goal

pub returns : goal.returns
returns c = local_is_run
