use Rattle.std.proofs.Common.{◌<◌, List, length, sym, subst}
use Rattle.xa_types.specs.declared.ids.RequestId.{RequestId}
use Rattle.xa_trials_callers.proofs.Calling.{same_asked}
use Rattle.xa_trials_callers.proofs.clients.+places_of.Goals as goal

pub withdraw-requires-clause-place : goal.withdraw-requires-clause-place
withdraw-requires-clause-place t c =
    (subst (λ (asked : List RequestId). 0 < length asked) (sym (c.places_of-others.ensures.asked c.in-Ok.place.cell)) c.in-Ok.ensures.open.0, c.in-Ok.ensures.ok.ticket_cell)

pub returns-in-Ok-clause-asked : goal.returns-in-Ok-clause-asked
returns-in-Ok-clause-asked t c = same_asked c.in-Ok.place.cell _ _ _ _ _ c.in-Ok.ensures.open.1 c.places_of-others.ensures.asked c.withdraw.ensures.shut
