use Rattle.xa_desk.specs.xa_caller.Caller.{MayCall}
use Rattle.xa_calls.specs.Going.{IsReady, PerformsBy, get_by}
use Rattle.xa_calls.specs.Telling.{IsQuiet}
use Rattle.xa_calls.proofs.getting.get.Given as goal

-- the call isn't over
abbrev pub invariant-loop : goal.invariant-loop
invariant-loop g l = record {
  goes : PerformsBy l.monitor.domain.now l.op (get_by l.wanted.descriptor l.wanted.flags l.wanted.expect.now) l.fn.desk l.desk;
  ready : IsReady l.monitor.domain.now l.fn.desk.caller.op l.desk;
  active : MayCall l.desk.caller;
  quiet : IsQuiet l.fn.desk l.desk;
}
