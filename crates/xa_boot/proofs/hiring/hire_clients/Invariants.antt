use Rattle.std.proofs.Common.{◌≡◌, ◌+◌, ◌≤◌, length, reverse, vec_capacity}
use Rattle.xa_client_worker.specs.xa_events.Words.{EachNumbered}
use Rattle.xa_boot.specs.Booting.{IsNewClient}
use Rattle.xa_boot.specs.Staffing.{IsFull, IsStaff}
use Rattle.xa_boot.proofs.hiring.hire_clients.Given as goal

abbrev pub invariant-loop : goal.invariant-loop
invariant-loop l = record {
  left : l.staff.left + l.counter ≡ l.domain.clients + 1;
  full : IsFull l.staff;
  staff : IsStaff l.domain l.staff;
  own : l.staff.own ≡ l.initial.staff.own;
  count : length l.clients.items ≡ l.counter;
  each : EachNumbered (IsNewClient l.domain) l.staff.left (reverse l.clients.items);
  room : l.domain.clients ≤ vec_capacity l.clients;
}
