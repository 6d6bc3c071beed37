use Rattle.std.proofs.Common.{length}
use Rattle.std.specs.List.{All}
use Rattle.xa_trials_objects.specs.Held.{Sits, HasTicket}
use Rattle.xa_trials_objects.proofs.held.is_left.Given as goal

abbrev pub invariant-loop-entry : goal.invariant-loop-entry
invariant-loop-entry l = record {
  seat : Sits l.cells l.seat;
  tickets : All (HasTicket l.cells) l.rest.waiting;
}

abbrev pub decreases-loop-entry : goal.decreases-loop-entry
decreases-loop-entry l = length l.rest.waiting
