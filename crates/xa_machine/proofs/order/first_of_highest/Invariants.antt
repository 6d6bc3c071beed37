use Rattle.std.proofs.Common.{◌≡◌, drop, reverse}
use Rattle.std.specs.Prelude.{nat_le}
use Rattle.std.specs.List.{list_all, find}
use Rattle.xa_events.specs.Request.{priority_at}
use Rattle.xa_machine.proofs.order.first_of_highest.Given as goal

abbrev pub invariant-loop-request : goal.invariant-loop-request
invariant-loop-request l =
    find (λ request. list_all (λ other. nat_le (priority_at (reverse l.events) other) (priority_at (reverse l.events) request)) l.waiting) l.waiting
    ≡ find (λ request. list_all (λ other. nat_le (priority_at (reverse l.events) other) (priority_at (reverse l.events) request)) l.waiting) (drop l.request-index l.waiting)
