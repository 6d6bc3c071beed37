use Rattle.xa_frame.proofs.FrontLemmas.{still_malformed}
use Rattle.xa_frame.proofs.laws.malformed_for_ever.Goals as goal

pub returns : goal.returns
returns c = still_malformed
