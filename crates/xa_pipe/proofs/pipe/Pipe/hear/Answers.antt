use Rattle.std.proofs.Common.{refl}
use Rattle.xa_pipe.specs.declared.turn.Turn.TheVariants.{Serving}
use Rattle.xa_pipe.proofs.Ceasing.{err_is, err_more, ceases_none, ceases_other}
use Rattle.xa_pipe.proofs.pipe.Pipe.hear.Goals as goal

pub returns-in_err-frame-clause-why : goal.returns-in_err-frame-clause-why
returns-in_err-frame-clause-why g c =
    err_is c.from_residual.result _ c.in_err-frame.field-0.0 c.from_residual.ensures.1
    (λ name frames read. ceases_none name c.args.number Serving frames c.read.new.self c.in_err-frame.field-0.0 refl (c.in_err-frame.ensures.kept frames read) (c.in_err-frame.ensures.why frames read))

pub returns-clause-why : goal.returns-clause-why
returns-clause-why g c =
    err_more c.act_in.result _ _
    (λ cause refused name frames read.
    ceases_other name c.args.number Serving frames c.read.new.self cause c.in_ok-frame.frame refused.0 refl c.in_ok-frame.ensures.spelling (refused.1 name) (c.in_ok-frame.ensures.frame frames read))
    c.act_in.ensures.no
