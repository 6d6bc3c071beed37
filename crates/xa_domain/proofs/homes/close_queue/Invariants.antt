use Rattle.std.proofs.Common.{◌≡◌, length}
use Rattle.std.specs.List.{All}
use Rattle.xa_boot.specs.xa_cell.Known.{IsTicketOf}
use Rattle.xa_domain.specs.Locks.{IsSilent}
use Rattle.xa_domain.proofs.homes.close_queue.Given as goal

abbrev pub invariant-loop-entry : goal.invariant-loop-entry
invariant-loop-entry l = record {
  silent : IsSilent l.cells l.seat;
  tickets : All (λ entry. IsTicketOf l.cells entry.cargo.ticket) l.rest.waiting;
  same : l.rest.entries ≡ l.initial.rest.entries;
}

abbrev pub decreases-loop-entry : goal.decreases-loop-entry
decreases-loop-entry l = length l.rest.waiting
