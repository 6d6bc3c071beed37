use Rattle.xa_worker.proofs.Over.{met_by_workers}
use Rattle.xa_worker.proofs.laws.met_by_workers.Goals as goal

pub returns : goal.returns
returns c = met_by_workers
