use Rattle.xa_desk.specs.Steps.{ask_by}
use Rattle.xa_desk.specs.xa_caller.Caller.{MayCall}
use Rattle.xa_calls.specs.Going.{IsReady, PerformsBy}
use Rattle.xa_calls.specs.Telling.{IsQuiet}
use Rattle.xa_calls.proofs.sending.send.Given as goal

-- all queues that are up were full
abbrev pub invariant-loop : goal.invariant-loop
invariant-loop g l = record {
  goes : PerformsBy l.monitor.domain.now l.op (ask_by l.apart l.ask) l.fn.desk l.desk;
  ready : IsReady l.monitor.domain.now l.fn.desk.caller.op l.desk;
  active : MayCall l.desk.caller;
  quiet : IsQuiet l.fn.desk l.desk;
}
