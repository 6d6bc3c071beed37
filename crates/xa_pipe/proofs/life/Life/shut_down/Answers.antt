use Rattle.std.proofs.Common.{refl}
use Rattle.xa_pipe.specs.declared.turn.Turn.TheVariants.{AwaitsInvoke}
use Rattle.xa_pipe.proofs.Courses.{shut_over, in_turn}
use Rattle.xa_pipe.proofs.life.Life.shut_down.Goals as goal

pub end-requires : goal.end-requires
end-requires g c =
    let sent = c.in-Ok.ensures in
    shut_over c.self.inside.course _ refl (in_turn c.self.inside.course c.args.self AwaitsInvoke c.self.view_is c.requires) c.self.invariant sent.took sent.gave sent.rest sent.place sent.reads sent.well sent.program
