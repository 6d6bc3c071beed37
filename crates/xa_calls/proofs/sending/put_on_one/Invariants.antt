use Rattle.std.specs.Prelude.{IfSome}
use Rattle.xa_calls.specs.Resting.{SawFull}
use Rattle.xa_calls.specs.Sending.{IsBy, IsOn, IsTried}
use Rattle.xa_calls.proofs.sending.put_on_one.Given as goal

-- each row before this one was tried in vain
abbrev pub invariant-loop : goal.invariant-loop
invariant-loop g l = record {
  on : IsOn l.monitor.domain.now l.apart l.ask l.fn.desk l.desk;
  tried : IsTried l.monitor.domain.now l.ask l.attempt l.full l.prepared.entry l.prepared.event l.desk;
  full : IfSome l.full (SawFull l.monitor.domain.now l.fn.desk l.desk);
  by : IsBy l.desk.reader.found l.attempt l.prepared.event;
}
