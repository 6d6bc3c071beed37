use Rattle.std.proofs.Common.{◌≡◌, length, vec_capacity}
use Rattle.xa_boot.proofs.boards.readers_of.Given as goal

abbrev pub invariant-loop : goal.invariant-loop
invariant-loop l = record { count : length l.readers.items ≡ l.counter; room : vec_capacity l.readers ≡ l.workers }
