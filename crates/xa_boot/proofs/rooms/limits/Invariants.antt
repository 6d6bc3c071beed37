use Rattle.std.proofs.Common.{◌≡◌, length, vec_capacity}
use Rattle.xa_client_worker.specs.xa_events.Words.{EachNumbered}
use Rattle.xa_boot.specs.Supplies.{limit_of}
use Rattle.xa_boot.proofs.rooms.limits.Given as goal

abbrev pub invariant-loop-worker : goal.invariant-loop-worker
invariant-loop-worker l = record {
  each : EachNumbered (λ worker limit. limit ≡ limit_of l.clients worker) 0 l.limits.items;
  count : length l.limits.items ≡ l.worker;
  room : vec_capacity l.limits ≡ l.workers;
}
