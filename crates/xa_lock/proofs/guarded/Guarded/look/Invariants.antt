use Rattle.std.proofs.Common.{◌≡◌}
use Rattle.xa_lock.proofs.guarded.Guarded.look.Given as goal

-- nothing changed for the seat
abbrev pub invariant-loop : goal.invariant-loop
invariant-loop g l = (l.seat.table_id ≡ l.fn.seat.table_id) × (l.seat.me ≡ l.fn.seat.me)
