use Rattle.std.proofs.Common.{◌≡◌, ℕ, take, reverse}
use Rattle.std.specs.Prelude.{nat_le}
use Rattle.std.specs.List.{list_all}
use Rattle.xa_events.specs.Request.{priority_at}
use Rattle.xa_machine.proofs.order.highest.Given as goal

abbrev pub invariant-loop-request : goal.invariant-loop-request
invariant-loop-request l = (priority : ℕ) → list_all (λ other. nat_le (priority_at (reverse l.events) other) priority) (take l.request-index l.waiting) ≡ nat_le l.highest priority
