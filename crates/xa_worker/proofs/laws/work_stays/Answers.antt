use Rattle.xa_worker.proofs.Growing.{work_stays}
use Rattle.xa_worker.proofs.laws.work_stays.Goals as goal

pub returns : goal.returns
returns c = work_stays
