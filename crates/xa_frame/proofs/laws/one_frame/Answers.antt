use Rattle.xa_frame.proofs.FrontLemmas.{no_other}
use Rattle.xa_frame.proofs.laws.one_frame.Goals as goal

pub returns : goal.returns
returns c = no_other
