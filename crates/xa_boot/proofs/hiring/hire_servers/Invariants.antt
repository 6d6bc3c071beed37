use Rattle.std.proofs.Common.{◌≡◌, ◌+◌, ◌≤◌, length, vec_capacity}
use Rattle.xa_boot.specs.Hiring.{AreLeft, AreHired}
use Rattle.xa_boot.proofs.hiring.hire_servers.Given as goal

abbrev pub invariant-loop-starter : goal.invariant-loop-starter
invariant-loop-starter g l = record {
  left : AreLeft l.domain (l.domain.clients + length l.starters.items + 1) l.staff;
  own : l.staff.own ≡ l.initial.staff.own;
  hired : AreHired l.domain g.T.Starter.shows l.initial.starters.items l.starters.items l.lives.items l.servers.items;
  room : length l.servers.items + length l.starters.items ≤ vec_capacity l.servers;
}

abbrev pub decreases-loop-starter : goal.decreases-loop-starter
decreases-loop-starter g l = length l.starters.items
