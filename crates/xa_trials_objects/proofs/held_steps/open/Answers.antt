use Rattle.std.proofs.Common.{◌+◌, refl}
use Rattle.xa_cell.specs.Known.{known}
use Rattle.xa_cell.specs.Views.{opening, at}
use Rattle.xa_trials_objects.proofs.held_steps.open.Goals as goal

pub returns-clause-ticket : goal.returns-clause-ticket
returns-clause-ticket c =
    let began = c.in-Ok.ensures.ok in
    record { table = began.table; opening = opening ((at c.in-Ok.place.cell (known c.args.seat.now)).count + 1) c.args.request; names = began.names; asked = refl }
