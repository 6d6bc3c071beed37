use Rattle.std.proofs.Common.{ℕ}
use Rattle.xa_cell.specs.Known.{IsSeatOf}
use Rattle.xa_cell.specs.Places.{IsShut}
use Rattle.xa_trials_objects.proofs.Seats.{popped, pushed, last, shut}
use Rattle.xa_trials_objects.proofs.cells.a_cell_is_filled_or_given_up.Goals as goal

pub is_filled_or_given_up-right-requires-clause-table : goal.is_filled_or_given_up-right-requires-clause-table
is_filled_or_given_up-right-requires-clause-table g c = last (IsSeatOf c.in-Ok.cells) _ _ _ c.next_seat-seat.ensures.items c.in-Ok.ensures.table

pub is_filled_or_given_up-right-requires-clause-shut : goal.is_filled_or_given_up-right-requires-clause-shut
is_filled_or_given_up-right-requires-clause-shut g c = last (IsShut {A = ℕ}) _ _ _ c.next_seat-seat.ensures.items (shut _ c.in-Ok.ensures.new)

pub close-requires-clause-table : goal.close-requires-clause-table
close-requires-clause-table g c =
    let own = IsSeatOf c.in-Ok.cells in
    pushed own _ _ _ c.push_reserved.ensures.items (popped own _ _ _ c.next_seat-seat.ensures.items c.in-Ok.ensures.table) c.is_filled_or_given_up-right.ensures.table

pub close-requires-clause-shut : goal.close-requires-clause-shut
close-requires-clause-shut g c =
    let none = popped (IsShut {A = ℕ}) _ _ _ c.next_seat-seat.ensures.items (shut _ c.in-Ok.ensures.new) in
    pushed IsShut _ _ _ c.push_reserved.ensures.items none c.is_filled_or_given_up-right.ensures.shut
