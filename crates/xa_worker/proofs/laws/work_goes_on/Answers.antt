use Rattle.xa_worker.proofs.Growing.{work_goes_on}
use Rattle.xa_worker.proofs.laws.work_goes_on.Goals as goal

pub returns : goal.returns
returns c = work_goes_on
