use Rattle.xa_worker.proofs.Ending.{crew_is_run}
use Rattle.xa_worker.proofs.laws.crew_is_run.Goals as goal

pub returns : goal.returns
returns c = λ setup clients workers board clock queues own noted homes events crew met are merged. crew_is_run setup clients board clock queues own workers noted homes events crew met are merged
