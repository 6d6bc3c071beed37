use Rattle.std.proofs.Common.{◌≡◌, length, vec_capacity}
use Rattle.std.specs.List.{All}
use Rattle.xa_domain.specs.Room.{IsEmptyFor}
use Rattle.xa_domain.proofs.room.passes_for.Given as goal

abbrev pub invariant-loop : goal.invariant-loop
invariant-loop l = record { each : All (IsEmptyFor l.workers) l.all.items; count : length l.all.items ≡ l.counter; room : vec_capacity l.all ≡ l.queues }
