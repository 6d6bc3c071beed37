use Rattle.std.proofs.Common.{arith}
use Rattle.std.proofs.lemmas.Result.{err_from_is_err_and}
use Rattle.xa_audit.proofs.Stops.{bad_at_once, bad_behind}
use Rattle.xa_audit.proofs.Answering.{refused_so}
use Rattle.xa_audit.proofs.auditing.answer_of.Goals as goal

pub returns-in_default-clause-refused : goal.returns-in_default-clause-refused
returns-in_default-clause-refused c = bad_at_once c.args.octets.now c.in_default.ensures

pub returns-in_err-names-clause-refused : goal.returns-in_err-names-clause-refused
returns-in_err-names-clause-refused c =
    let p = err_from_is_err_and c.from_residual-in_err-names.result c.from_residual-in_err-names.ensures.1 in
    rw (p.1) (refused_so c.args.octets.now c.in-Some.rest.now c.in_err-names.field-0.0 p.0 p.2
    (λ at stops. bad_behind c.args.octets.now c.in-Some.config.now c.in-Some.rest.now c.in_ok-setup.setup at (omega arith) c.in-Some.ensures c.in_ok-setup.ensures.found stops) c.in_err-names.ensures.refused)
