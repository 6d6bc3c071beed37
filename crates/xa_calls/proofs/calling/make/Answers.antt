use Rattle.xa_calls.proofs.Noting.{told_call}
use Rattle.xa_calls.proofs.calling.make.Goals as goal

pub returns-in_ok-call-in-Call-clause-told : goal.returns-in_ok-call-in-Call-clause-told
returns-in_ok-call-in-Call-clause-told g c = told_call c.told_at.result c.args.number c.args.desk.now c.call.new.desk c.call.ensures.goes.same c.told_at.ensures c.in_ok-call-in-Call.ensures.notes

pub returns-in_ok-set_priority-in-Priority-clause-told : goal.returns-in_ok-set_priority-in-Priority-clause-told
returns-in_ok-set_priority-in-Priority-clause-told g c = told_call c.told_at-in-Priority.result c.args.number c.args.desk.now c.set_priority.new.desk c.set_priority.ensures.goes.same c.told_at-in-Priority.ensures c.in_ok-set_priority-in-Priority.ensures.notes
