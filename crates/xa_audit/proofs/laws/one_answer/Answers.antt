use Rattle.xa_audit.proofs.Determined.{one_answer}
use Rattle.xa_audit.proofs.laws.one_answer.Goals as goal

pub returns : goal.returns
returns c = one_answer
