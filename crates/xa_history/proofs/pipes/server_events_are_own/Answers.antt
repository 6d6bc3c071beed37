use Rattle.xa_history.proofs.Own.{server_events}
use Rattle.xa_history.proofs.pipes.server_events_are_own.Goals as goal

pub returns : goal.returns
returns c = λ d b domain desks homes events left are merged. server_events d b domain desks left homes events are merged
