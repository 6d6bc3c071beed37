use Rattle.xa_pipe.proofs.Ceasing.{err_is, ceases_none, ceases_other}
use Rattle.xa_pipe.proofs.course.Course.read.Goals as goal

pub returns-in_err-frame-clause-why : goal.returns-in_err-frame-clause-why
returns-in_err-frame-clause-why g c =
    let old = c.args.self.now in
    err_is c.from_residual.result _ c.in_err-frame.field-0.0 c.from_residual.ensures.1
    (λ read. ceases_none old.name old.tag old.turn old.said c.read.new.self c.in_err-frame.field-0.0 c.requires (c.in_err-frame.ensures.kept old.said read) (c.in_err-frame.ensures.why old.said read))

pub returns-clause-why : goal.returns-clause-why
returns-clause-why g c =
    λ read.
    let old = c.args.self.now in
    ceases_other old.name old.tag old.turn old.said c.read.new.self c.out_of_turn-cause.result c.in_ok-frame.frame c.out_of_turn-cause.ensures c.requires c.in_ok-frame.ensures.spelling (c.may_say.ensures.no c.if-may_say.false)
    (c.in_ok-frame.ensures.frame old.said read)
