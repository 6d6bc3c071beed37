use Rattle.xa_worker.proofs.Growing.{page_goes_on}
use Rattle.xa_worker.proofs.laws.page_goes_on.Goals as goal

pub returns : goal.returns
returns c = page_goes_on
