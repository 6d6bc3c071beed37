-- There is the starter of each server so far, which was asked for no start.
use Rattle.std.proofs.Common.{◌≡◌, ◌≤◌, vec_capacity, [], All, length}
use Rattle.xa_link.proofs.Starters.{AreOf}
use Rattle.xa_child.proofs.local.LocalYard.starters_of.Given as goal

abbrev pub invariant-loop-server : goal.invariant-loop-server
invariant-loop-server l = record {
  each : length l.all.items ≡ l.server-index;
  names : AreOf (λ s. s.server) l.all.items l.servers l.server-index;
  room : length l.servers ≤ vec_capacity l.all;
  none : All (λ s. s.asked.items ≡ []) l.all.items;
}
