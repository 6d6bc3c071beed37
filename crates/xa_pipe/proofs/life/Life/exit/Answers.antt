use Rattle.xa_pipe.specs.declared.turn.Turn.TheVariants.{Exited}
use Rattle.xa_pipe.proofs.Courses.{exited_over, in_turn}
use Rattle.xa_pipe.proofs.life.Life.exit.Goals as goal

pub end-requires : goal.end-requires
end-requires g c = exited_over c.self.inside.course (in_turn c.self.inside.course c.args.self Exited c.self.view_is c.requires) c.self.invariant
