use Rattle.xa_restart.proofs.Recalling.{no_earlier}
use Rattle.xa_restart.proofs.laws.no_start_is_earlier.Goals as goal

pub returns : goal.returns
returns c = no_earlier
