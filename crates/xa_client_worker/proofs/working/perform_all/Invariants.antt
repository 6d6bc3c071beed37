use Rattle.std.proofs.Common.{◌≡◌}
use Rattle.xa_client_worker.specs.Going.{IsReady}
use Rattle.xa_client_worker.specs.Ending.{GoesThrough}
use Rattle.xa_client_worker.proofs.working.perform_all.Given as goal

-- so many calls were made
abbrev pub invariant-loop-op : goal.invariant-loop-op
invariant-loop-op g l = record {
  number : l.number ≡ l.op-index;
  goes : GoesThrough l.monitor.domain.now l.ops l.fn.desk l.desk;
  ready : IsReady l.monitor.domain.now l.op-index l.desk;
}
