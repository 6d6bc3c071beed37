use Rattle.xa_server_worker.specs.Steps.{Waits}
use Rattle.xa_server_worker.proofs.taking.next.Given as goal

-- nothing was taken so far
abbrev pub invariant-loop : goal.invariant-loop
invariant-loop g l = record {
  waits : Waits l.monitor.domain.now l.queue.0 l.fn.slot l.slot l.fn.desk l.desk;
}
