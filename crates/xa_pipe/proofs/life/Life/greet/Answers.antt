use Rattle.xa_pipe.specs.Frames.{next_frame}
use Rattle.xa_pipe.specs.Standing.{LifeState}
use Rattle.xa_pipe.specs.Changes.{Heard, Greeted}
use Rattle.xa_pipe.proofs.Courses.{greets, ok_more}
use Rattle.xa_pipe.proofs.life.Life.greet.Goals as goal

pub returns-clause-greeted : goal.returns-clause-greeted
returns-clause-greeted g c =
    let first = c.in_ok-skip.ensures.heard in
    ok_more c.read_next.result (λ (life : LifeState). Heard next_frame life c.in_ok-skip.field-0) (λ (life : LifeState). Greeted life c.args.self)
    (λ life next. greets c.args.self c.in_ok-skip.field-0 life first.0 c.requires first.1 next) c.read_next.ensures.next
