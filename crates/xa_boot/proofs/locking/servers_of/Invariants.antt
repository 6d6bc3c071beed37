use Rattle.std.proofs.Common.{◌≡◌, ◌≤◌, ◌+◌, ◌++◌, drop, length, vec_capacity}
use Rattle.xa_boot.specs.Locking.{servers_at}
use Rattle.xa_boot.proofs.locking.servers_of.Given as goal

abbrev pub invariant-loop-server : goal.invariant-loop-server
invariant-loop-server l = record {
  number : l.number ≡ l.server-index;
  items : l.servers.items ++ servers_at l.setup l.queue.0 (l.server-index + 1) (drop l.server-index l.all) ≡ servers_at l.setup l.queue.0 1 l.all;
  few : length l.servers.items ≤ l.server-index;
  room : vec_capacity l.servers ≡ length l.all;
}
