use Rattle.std.specs.Prelude.{◌≡◌}
use Rattle.xa_desk.specs.Passing.{IsPassing}
use Rattle.xa_server_worker.specs.Passing.{IsBy, WereTried, IsBack, its_queue}
use Rattle.xa_server_worker.proofs.passing.pass_on.Given as goal

-- each queue so far refused it
abbrev pub invariant-loop : goal.invariant-loop
invariant-loop g l = record {
  same : l.slot ≡ l.fn.slot;
  passing : IsPassing l.monitor.domain.now (its_queue l.monitor.domain.now l.fn.slot) l.entry l.event l.slot l.desk;
  back : IsBack l.monitor.domain.now l.fn.desk l.desk;
  payload : l.entry.cargo.invocation.payload ≡ l.fn.first.cargo.invocation.payload;
  by : IsBy l.desk l.attempt l.event;
  tried : WereTried l.monitor.domain.now l.desk l.attempt;
}
