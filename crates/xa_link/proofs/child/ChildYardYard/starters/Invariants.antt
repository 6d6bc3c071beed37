-- There is one starter for each server so far.
use Rattle.std.proofs.Common.{◌≡◌, ◌≤◌, length, All, vec_capacity}
use Rattle.xa_link.proofs.Starters.{AreOf}
use Rattle.xa_link.proofs.child.ChildYardYard.starters.Given as goal

abbrev pub invariant-loop-server : goal.invariant-loop-server
invariant-loop-server g l = record {
  each : length l.all.items ≡ l.server-index;
  names : AreOf (λ s. s.server) l.all.items l.servers l.server-index;
  counts : All (λ s. s.faults ≡ 0) l.all.items;
  room : length l.servers ≤ vec_capacity l.all;
}
