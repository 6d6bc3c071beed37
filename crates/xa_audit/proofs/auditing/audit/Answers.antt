use Rattle.std.proofs.Common.{arith}
use Rattle.std.proofs.lemmas.Result.{IfOk-weaker}
use Rattle.xa_audit.specs.Audit.{IsAudited, LawfulWhereRun}
use Rattle.xa_audit.proofs.Answering.{of_written}
use Rattle.xa_audit.proofs.auditing.audit.Goals as goal

pub returns-clause-lawful : goal.returns-clause-lawful
returns-clause-lawful c =
    IfOk-weaker c.answer_of.result (IsAudited c.args.octets.now) (LawfulWhereRun c.args.octets.now) (λ verdict is. c.records_are_lawful.ensures c.args.octets.now verdict is) c.answer_of.ensures.judged

pub returns-clause-written : goal.returns-clause-written
returns-clause-written c = of_written c.args.octets.now c.answer_of.result (omega arith) c.answer_of.ensures.judged c.answer_of.ensures.refused
