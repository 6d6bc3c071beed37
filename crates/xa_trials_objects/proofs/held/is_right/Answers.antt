use Rattle.std.proofs.Common.{ℕ}
use Rattle.xa_cell.specs.Known.{IsSeatOf}
use Rattle.xa_cell.specs.Places.{IsShut}
use Rattle.xa_trials_objects.proofs.Seats.{popped, pushed, last, shut}
use Rattle.xa_trials_objects.proofs.held.is_right.Goals as goal

pub plays-right-requires : goal.plays-right-requires
plays-right-requires g c = (
  last (IsSeatOf c.in-Ok.cells) _ _ _ c.next-seat.ensures.items c.in-Ok.ensures.table,
  last (IsShut {A = ℕ}) _ _ _ c.next-seat.ensures.items (shut _ c.in-Ok.ensures.new),
)

pub close-requires-clause-table : goal.close-requires-clause-table
close-requires-clause-table g c =
    let own = IsSeatOf c.in-Ok.cells in
    pushed own _ _ _ c.push_reserved.ensures.items (popped own _ _ _ c.next-seat.ensures.items c.in-Ok.ensures.table) c.plays-right.ensures.0

pub close-requires-clause-shut : goal.close-requires-clause-shut
close-requires-clause-shut g c =
    let none = popped (IsShut {A = ℕ}) _ _ _ c.next-seat.ensures.items (shut _ c.in-Ok.ensures.new) in
    pushed IsShut _ _ _ c.push_reserved.ensures.items none c.plays-right.ensures.1
