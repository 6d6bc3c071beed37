use Rattle.std.proofs.Common.{◌≡◌}
use Rattle.xa_gauge.proofs.gauge.Gauge.up.Given as goal

-- nothing was noted yet
abbrev pub invariant-loop : goal.invariant-loop
invariant-loop g l = (l.pass.seat.table_id ≡ l.initial.pass.seat.table_id) × (l.pass.seat.me ≡ l.initial.pass.seat.me)
