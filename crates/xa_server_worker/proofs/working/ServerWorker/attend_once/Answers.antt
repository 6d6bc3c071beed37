use Rattle.xa_server_worker.proofs.Calling.{calls_by, ends_by_act, says_none}
use Rattle.xa_server_worker.proofs.working.ServerWorker.attend_once.Goals as goal

pub call-requires-clause-calling : goal.call-requires-clause-calling
call-requires-clause-calling g c κs within =
    let its = c.requires.served in
    (its.0, calls_by c.args.self.now its.0 c.args.life c.op-last.result c.op-last.ensures.value c.id-itself.ensures.sound its.1 c.in-Ok.field-0.life c.in-Ok.field-0.act c.in-Calls.op c.in-Calls.is c.op-last.type_inv c.in-Ok.ensures.heard)

pub returns-in-Ends-clause-attended : goal.returns-in-Ends-clause-attended
returns-in-Ends-clause-attended g c =
    let its = c.requires.served in
    (its.0, ends_by_act c.args.self.now its.0 c.args.life c.op-last.result c.op-last.ensures.value c.id-itself.ensures.sound its.1 c.in-Ok.field-0.life c.in-Ok.field-0.act c.in-Ends.back c.in-Ends.is c.in-Ok.ensures.heard)

pub returns-in-Err-clause-attended : goal.returns-in-Err-clause-attended
returns-in-Err-clause-attended g c =
    let its = c.requires.served in
    (its.0, says_none c.args.self.now its.0 c.args.life c.op-last.result c.op-last.ensures.value c.id-itself.ensures.sound its.1 c.in-Err.over c.in-Err.ensures.over)
