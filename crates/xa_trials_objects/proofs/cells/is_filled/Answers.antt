use Rattle.std.proofs.Common.{[]}
use Rattle.xa_cell.proofs.OpenPlaces.{one_more_open, still_open, one_less_open}
use Rattle.xa_trials_objects.proofs.cells.is_filled.Goals as goal

pub returns-clause-shut : goal.returns-clause-shut
returns-clause-shut g c = let opened = one_more_open c.requires.shut c.in-Ok.ensures.open.1 in
    let come = still_open (still_open (still_open (still_open opened c.is_full-is_full.ensures.stand) c.look.ensures.open) c.fill.ensures.open) c.look-2.ensures.open in
    one_less_open [] [] _ c.look-2.new.seat come c.take.ensures.shut
