use Rattle.std.proofs.Common.{◌≡◌, List, ◌++◌, length}
use Rattle.xa_cell.specs.Known.{known, SameSeat}
use Rattle.xa_caller.specs.Changes.{FillsNoMore, GivesUp}
use Rattle.xa_caller.specs.Kept.{IsLeaving}
use Rattle.xa_caller.specs.declared.phase.Open.{Open}
use Rattle.xa_caller.proofs.leaving.give_up_all.Given as goal

abbrev pub invariant-loop-work : goal.invariant-loop-work
invariant-loop-work l = record {
  same : SameSeat l.cells l.fn.seat l.seat;
  filled : FillsNoMore (known l.fn.seat) (known l.seat);
  leaving : IsLeaving l.work l.seat l.out.all;
  given : (given : List Open) × (l.fn.out.all ≡ given ++ l.out.all) × GivesUp given l.work l.fn.work;
  id : l.work.id ≡ l.fn.work.id;
}

abbrev pub decreases-loop-work : goal.decreases-loop-work
decreases-loop-work l = length l.out.all
