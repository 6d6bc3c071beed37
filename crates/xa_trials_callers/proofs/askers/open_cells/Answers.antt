use Rattle.xa_cell.specs.declared.tokens.Seat.{Seat}
use Rattle.xa_cell.specs.Known.{known, IsNew, IsSeatOf}
use Rattle.xa_cell.specs.Places.{IsShut}
use Rattle.xa_caller.specs.declared.cargo.Filling.{Filling}
use Rattle.xa_trials_objects.proofs.Seats.{popped, last, shut}
use Rattle.xa_trials_callers.proofs.askers.open_cells.Goals as goal

pub returns-clause-table : goal.returns-clause-table
returns-clause-table g c =
    let its = IsSeatOf c.in-Ok.cells in
    let both = c.in-Ok.ensures.table in
    (last its _ _ _ c.next_seat-seat.ensures (popped its _ _ _ c.next_seat-own.ensures both), last its _ _ _ c.next_seat-own.ensures both)

pub returns-clause-shut : goal.returns-clause-shut
returns-clause-shut g c = last IsShut _ _ _ c.next_seat-seat.ensures (popped IsShut _ _ _ c.next_seat-own.ensures (shut _ c.in-Ok.ensures.new))

pub returns-clause-new : goal.returns-clause-new
returns-clause-new g c = last (λ (s : Seat Filling). IsNew s.first s.count (known s)) _ _ _ c.next_seat-own.ensures c.in-Ok.ensures.new
