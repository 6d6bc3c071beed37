use Rattle.xa_trials_objects.specs.Held.{Sits, Serves}
use Rattle.xa_trials_objects.proofs.held.are_told.Given as goal

abbrev pub invariant-loop-step : goal.invariant-loop-step
invariant-loop-step l = record {
  seat : Sits l.cells l.seat;
  up : Serves l.cells l.id.0 l.queue;
}
