use Rattle.xa_history.proofs.Behind.{ends_recorded}
use Rattle.xa_history.proofs.Recorded.{dense}
use Rattle.xa_history.proofs.ending.all_is_recorded.Goals as goal

pub returns : goal.returns
returns c = record { recorded = ends_recorded; dense = dense }
