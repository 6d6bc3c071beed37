use Rattle.std.proofs.Common.{sym, subst}
use Rattle.xa_link.specs.Links.{LinkShows}
use Rattle.xa_pipe.specs.Standing.{IsCutOff}
use Rattle.xa_pipe.specs.Kept.{standing_of}
use Rattle.xa_pipe.proofs.Courses.{cut_sound}
use Rattle.xa_pipe.proofs.course.Course.cut.Goals as goal

pub invariant_of-result : goal.invariant_of-result
invariant_of-result g c =
    let life = standing_of c.args.self in
    subst (λ (link : LinkShows). IsCutOff (record life { link = link })) (sym c.kill.ensures) (cut_sound life c.requires)
