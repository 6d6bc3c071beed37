use Rattle.std.proofs.Common.{◌≡◌, vec_capacity}
use Rattle.xa_boot.specs.Locking.{AreLocked}
use Rattle.xa_boot.proofs.locking.lock_queues.Given as goal

abbrev pub invariant-loop-place : goal.invariant-loop-place
invariant-loop-place l = record {
  locked : AreLocked l.setup l.clients l.cells l.first l.workers l.place l.locked;
  queues : vec_capacity l.locked.queues ≡ l.count;
  passes : vec_capacity l.locked.passes ≡ l.count;
}
