use Rattle.xa_worker.proofs.Growing.{page_stays}
use Rattle.xa_worker.proofs.laws.page_stays.Goals as goal

pub returns : goal.returns
returns c = page_stays
