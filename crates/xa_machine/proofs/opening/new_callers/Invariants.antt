use Rattle.std.proofs.Common.{◌≡◌, length}
use Rattle.xa_machine.specs.Tables.{AllShow, CallerShows, no_caller}
use Rattle.xa_machine.proofs.opening.new_callers.Given as goal

abbrev pub invariant-loop : goal.invariant-loop
invariant-loop l = record { many : length l.rows.items ≡ l.counter; shows : AllShow (CallerShows l.boot) no_caller l.rows.items }
