use Rattle.xa_pipe.proofs.Whole.{ends_as_said}
use Rattle.xa_pipe.proofs.laws.ends_as_said.Goals as goal

pub returns : goal.returns
returns c = ends_as_said
