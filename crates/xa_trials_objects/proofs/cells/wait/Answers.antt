use Rattle.std.proofs.Common.{[]}
use Rattle.xa_cell.proofs.OpenPlaces.{is_among, still_open, one_less_open}
use Rattle.xa_trials_objects.proofs.cells.wait.Goals as goal

pub look-requires-clause-place : goal.look-requires-clause-place
look-requires-clause-place c = is_among [] [] _ _ c.loop-look.invariant.places

pub take-answer-requires-clause-come : goal.take-answer-requires-clause-come
take-answer-requires-clause-come c = (is_among [] [] _ _ (still_open c.loop-look.invariant.places c.look.ensures.open), c.in-Come.ensures.known.1)

pub loop-look-preserved : goal.loop-look-preserved
loop-look-preserved c = record { table = c.look.ensures.seat.0; places = still_open c.loop-look.invariant.places c.look.ensures.open }

pub returns-in-Come-clause-shut : goal.returns-in-Come-clause-shut
returns-in-Come-clause-shut c = one_less_open [] [] _ c.look.new.seat (still_open c.loop-look.invariant.places c.look.ensures.open) c.take-answer.ensures.shut

pub cancel-requires-clause-place : goal.cancel-requires-clause-place
cancel-requires-clause-place c = is_among [] [] _ _ c.loop-look.invariant.places

pub returns-in-Under-clause-shut : goal.returns-in-Under-clause-shut
returns-in-Under-clause-shut c = one_less_open [] [] _ c.loop-look.seat c.loop-look.invariant.places c.cancel.ensures.shut

pub returns-in-Came-clause-shut : goal.returns-in-Came-clause-shut
returns-in-Came-clause-shut c = one_less_open [] [] _ c.loop-look.seat c.loop-look.invariant.places c.cancel.ensures.shut
