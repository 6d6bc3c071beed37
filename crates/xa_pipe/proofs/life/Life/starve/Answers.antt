use Rattle.xa_pipe.specs.declared.turn.Turn.TheVariants.{Performing}
use Rattle.xa_pipe.proofs.Courses.{starved_over, in_turn}
use Rattle.xa_pipe.proofs.life.Life.starve.Goals as goal

pub end-requires : goal.end-requires
end-requires g c = starved_over c.self.inside.course (in_turn c.self.inside.course c.args.self Performing c.self.view_is c.requires) c.self.invariant
