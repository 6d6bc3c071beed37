use Rattle.xa_worker.proofs.Growing.{enters_own, enters_seen}
use Rattle.xa_worker.proofs.laws.enters_goes_on.Goals as goal

pub returns-clause-own : goal.returns-clause-own
returns-clause-own c = enters_own

pub returns-clause-seen : goal.returns-clause-seen
returns-clause-seen c = enters_seen
