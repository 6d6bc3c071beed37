use Rattle.std.proofs.Common.{◌≡◌, length}
use Rattle.xa_machine.specs.Tables.{AllShow, ServerShows, no_server}
use Rattle.xa_machine.proofs.opening.new_servers.Given as goal

abbrev pub invariant-loop : goal.invariant-loop
invariant-loop l = record { many : length l.rows.items ≡ l.counter; shows : AllShow ServerShows no_server l.rows.items }
