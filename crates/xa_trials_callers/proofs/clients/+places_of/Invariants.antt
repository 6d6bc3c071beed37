use Rattle.xa_trials_callers.proofs.clients.+places_of.Given as goal

abbrev pub decreases-places_of : goal.decreases-places_of
decreases-places_of l = l.most
