use Rattle.std.proofs.Common.{refl}
use Rattle.xa_events.specs.State.{State, opening}
use Rattle.xa_events.specs.Caller.{open_descriptors}
use Rattle.xa_events.specs.Laws.{LawOfAnswers}
use Rattle.xa_events.proofs.Stages.{along, Agree, agree_none, agree_more}
use Rattle.xa_events.proofs.AnswersOnce.{Unanswered, unanswered_more, answer_law}
use Rattle.xa_events.proofs.laws.answers_once.Goals as goal

pub returns : goal.returns
unfolding open_descriptors
returns c setup clients events new run =
    (along (λ (s : State). Agree s × Unanswered s.past × LawOfAnswers s.past)
    (λ s e case h. (agree_more s e case h.0, unanswered_more s e case h.0 h.1, (answer_law s e case h.0 h.1, h.2)))
    events (opening setup clients) new (agree_none setup clients, record { all = λ r none. refl; is_open = λ r h. cc h }, tt) run).2
