use Rattle.xa_trials_objects.specs.Held.{Sits, Serves, IsDown}
use Rattle.xa_trials_objects.proofs.held.are_told_past.Given as goal

abbrev pub invariant-loop-step : goal.invariant-loop-step
invariant-loop-step l = record {
  seat : Sits l.cells l.seat;
  first : IsDown l.cells 1 l.first;
  other : Serves l.cells 2 l.other;
}
