use Rattle.xa_events.specs.State.{State, opening}
use Rattle.xa_events.specs.Laws.{LawOfClosed}
use Rattle.xa_events.proofs.Stages.{along}
use Rattle.xa_events.proofs.Localities.{sent_open}
use Rattle.xa_events.proofs.laws.closed_queues_get_nothing.Goals as goal

pub returns : goal.returns
returns c setup clients events new run = along (λ (s : State). LawOfClosed s.past) (λ s e case h. (sent_open s e case, h)) events (opening setup clients) new tt run
