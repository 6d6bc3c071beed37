use Rattle.xa_events.specs.State.{State, opening}
use Rattle.xa_events.specs.Laws.{LawOfEnds}
use Rattle.xa_events.proofs.Stages.{along, Agree, agree_none, agree_more, ends_law}
use Rattle.xa_events.proofs.laws.ends_once.Goals as goal

pub returns : goal.returns
returns c setup clients events new run =
    (along (λ (s : State). Agree s × LawOfEnds s.past) (λ s e case h. (agree_more s e case h.0, (ends_law s e case h.0, h.1))) events (opening setup clients) new (agree_none setup clients, tt) run).1
