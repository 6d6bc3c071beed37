use Rattle.xa_desk.specs.xa_types.declared.call.Op.TheVariants.{Call}
use Rattle.xa_desk.specs.xa_caller.Caller.{MayCall}
use Rattle.xa_calls.specs.Going.{IsWaiting, PerformsBy}
use Rattle.xa_calls.specs.Telling.{IsQuiet}
use Rattle.xa_calls.proofs.calling.await_reply.Given as goal

-- the answer is still to come
abbrev pub invariant-loop : goal.invariant-loop
invariant-loop g l = record {
  goes : PerformsBy l.monitor.domain.now l.fn.desk.caller.op (Call l.ask) l.fn.desk l.desk;
  waiting : IsWaiting l.monitor.domain.now l.fn.desk.caller.op l.desk;
  active : MayCall l.desk.caller;
  quiet : IsQuiet l.fn.desk l.desk;
}
