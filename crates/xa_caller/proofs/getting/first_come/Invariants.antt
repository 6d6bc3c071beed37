use Rattle.std.proofs.Common.{◌≡◌, List, ◌++◌, length}
use Rattle.xa_cell.specs.Known.{known, SameSeat}
use Rattle.xa_cell.specs.Places.{Stand}
use Rattle.xa_caller.specs.declared.phase.Open.{Open}
use Rattle.xa_caller.specs.Getting.{after_pending}
use Rattle.xa_caller.proofs.getting.first_come.Given as goal

-- those so far were looked at, and no answer had come
abbrev pub invariant-loop-place : goal.invariant-loop-place
invariant-loop-place l = record {
  same : SameSeat l.cells l.fn.seat l.seat;
  stand : Stand (known l.fn.seat) (known l.seat);
  passed : (front : List Open) × (back : List Open) × (l.out.all ≡ front ++ back) × (length front ≡ l.place) × (known l.seat ≡ after_pending front (known l.fn.seat));
}
