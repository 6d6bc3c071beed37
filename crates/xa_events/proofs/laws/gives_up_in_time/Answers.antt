use Rattle.xa_events.specs.State.{State, opening}
use Rattle.xa_events.specs.Laws.{LawOfTimes}
use Rattle.xa_events.proofs.Stages.{along}
use Rattle.xa_events.proofs.Times.{time_law}
use Rattle.xa_events.proofs.laws.gives_up_in_time.Goals as goal

pub returns : goal.returns
returns c setup clients events new run = along (λ (s : State). LawOfTimes s.past) (λ s e case h. (time_law s e case, h)) events (opening setup clients) new tt run
