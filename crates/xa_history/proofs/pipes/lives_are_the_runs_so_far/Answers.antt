use Rattle.xa_history.proofs.SoFar.{lives_so_far, starters_so_far}
use Rattle.xa_history.proofs.pipes.lives_are_the_runs_so_far.Goals as goal

pub returns : goal.returns
returns c = record {
  lives = λ d b domain desks servers homes events ends merged. lives_so_far d b domain desks servers homes ⊥ ends events merged;
  starters = λ d b domain desks servers homes events ends merged. starters_so_far d b domain desks servers homes ⊥ ends events merged;
}
