use Rattle.std.proofs.Common.{ℕ}
use Rattle.xa_cell.specs.Known.{IsSeatOf}
use Rattle.xa_cell.specs.Places.{IsShut}
use Rattle.xa_trials_objects.proofs.Seats.{popped, pushed, last, shut}
use Rattle.xa_trials_objects.proofs.cells.each_answer_is_taken_once_or_dropped_once.Goals as goal

pub are_taken_or_dropped-right-requires-clause-table : goal.are_taken_or_dropped-right-requires-clause-table
are_taken_or_dropped-right-requires-clause-table g c _ =
    let own = IsSeatOf c.in-Ok.cells in
    let both = c.in-Ok.ensures.table in
    let one = popped own _ _ _ c.next_seat-filler.ensures.items both in
    (last own _ _ _ c.next_seat-owner.ensures.items one, last own _ _ _ c.next_seat-filler.ensures.items both)

pub are_taken_or_dropped-right-requires-clause-shut : goal.are_taken_or_dropped-right-requires-clause-shut
are_taken_or_dropped-right-requires-clause-shut g c _ =
    let both = shut _ c.in-Ok.ensures.new in
    let one = popped (IsShut {A = ℕ}) _ _ _ c.next_seat-filler.ensures.items both in
    (last IsShut _ _ _ c.next_seat-owner.ensures.items one, last IsShut _ _ _ c.next_seat-filler.ensures.items both)

pub close-requires-clause-table : goal.close-requires-clause-table
close-requires-clause-table g c =
    let own = IsSeatOf c.in-Ok.cells in
    let none = popped own _ _ _ c.next_seat-owner.ensures.items (popped own _ _ _ c.next_seat-filler.ensures.items c.in-Ok.ensures.table) in
    let one = pushed own _ _ _ c.push_reserved.ensures.items none c.are_taken_or_dropped-right.ensures.table.0 in
    pushed own _ _ _ c.push_reserved-2.ensures.items one c.are_taken_or_dropped-right.ensures.table.1

pub close-requires-clause-shut : goal.close-requires-clause-shut
close-requires-clause-shut g c =
    let none = popped (IsShut {A = ℕ}) _ _ _ c.next_seat-owner.ensures.items (popped IsShut _ _ _ c.next_seat-filler.ensures.items (shut _ c.in-Ok.ensures.new)) in
    let one = pushed IsShut _ _ _ c.push_reserved.ensures.items none c.are_taken_or_dropped-right.ensures.shut.0 in
    pushed IsShut _ _ _ c.push_reserved-2.ensures.items one c.are_taken_or_dropped-right.ensures.shut.1
