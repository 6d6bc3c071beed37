use Rattle.std.proofs.Common.{◌≡◌, length}
use Rattle.xa_machine.specs.Tables.{AllShow, QueueShows, no_queue}
use Rattle.xa_machine.proofs.opening.new_queues.Given as goal

abbrev pub invariant-loop : goal.invariant-loop
invariant-loop l = record { many : length l.rows.items ≡ l.counter; shows : AllShow QueueShows no_queue l.rows.items }
