use Rattle.std.proofs.Common.{ap, ◌∙◌}
use Rattle.xa_pipe.specs.Life.{is_reading}
use Rattle.xa_pipe.specs.Standing.{LifeState}
use Rattle.xa_pipe.proofs.Courses.{kept_heard, fallen_over}
use Rattle.xa_pipe.proofs.life.Life.listen.Goals as goal

pub invariant_of-life : goal.invariant_of-life
invariant_of-life g c =
    let done = c.in-Ok.ensures in
    kept_heard c.self.inside.course c.read.new.self c.note.new.self c.in-Ok.frame done.same c.note.ensures c.self.invariant done.may.0 done.may.1 (done.read c.self.invariant.read)
    done.beside.0 done.well done.beside.1 done.beside.2

pub end-requires : goal.end-requires
end-requires g c =
    let done = c.in-Err.ensures in
    fallen_over c.self.inside.course c.read.new.self c.in-Err.cause done.same (ap (λ (s : LifeState). is_reading s.turn) c.self.view_is ∙ c.requires) c.self.invariant (done.why c.self.invariant.read)
    done.beside.0 done.counts done.beside.1 done.beside.2
