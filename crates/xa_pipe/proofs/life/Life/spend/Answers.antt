use Rattle.std.proofs.Common.{refl}
use Rattle.xa_pipe.specs.declared.turn.Turn.TheVariants.{Serving}
use Rattle.xa_pipe.proofs.Courses.{kept_spent, in_turn}
use Rattle.xa_pipe.proofs.life.Life.spend.Goals as goal

pub invariant_of-result : goal.invariant_of-result
invariant_of-result g c = kept_spent c.self.inside.course _ (in_turn c.self.inside.course c.args.self Serving c.self.view_is c.requires) refl c.self.invariant
