use Rattle.std.specs.Prelude.{⊤}
use Rattle.xa_history.proofs.Lives.{carried}
use Rattle.xa_history.proofs.pipes.lives_are_the_runs.Goals as goal

pub returns : goal.returns
returns c = λ d b domain desks servers homes events ends merged. carried d b domain desks servers homes ⊤ ends events merged tt
