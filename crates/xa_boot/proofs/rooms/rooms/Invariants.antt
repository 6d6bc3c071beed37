use Rattle.std.proofs.Common.{◌≡◌, length, vec_capacity}
use Rattle.std.specs.List.{All}
use Rattle.xa_boot.specs.Supplies.{IsRoom}
use Rattle.xa_boot.proofs.rooms.rooms.Given as goal

abbrev pub invariant-loop : goal.invariant-loop
invariant-loop l = record { each : All (IsRoom l.queues) l.all.items; count : length l.all.items ≡ l.counter; room : vec_capacity l.all ≡ l.workers }
