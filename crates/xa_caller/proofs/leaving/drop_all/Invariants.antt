use Rattle.std.proofs.Common.{map, length}
use Rattle.xa_cell.specs.Known.{known, SameSeat}
use Rattle.xa_cell.specs.Places.{OpenAre}
use Rattle.xa_caller.specs.Changes.{FillsNoMore}
use Rattle.xa_caller.specs.Phases.{place_of}
use Rattle.xa_caller.proofs.leaving.drop_all.Given as goal

-- those that are left are open
abbrev pub invariant-loop-out : goal.invariant-loop-out
invariant-loop-out l = record {
  same : SameSeat l.cells l.fn.seat l.seat;
  filled : FillsNoMore (known l.fn.seat) (known l.seat);
  open_ : OpenAre (map place_of l.out.all) (known l.seat);
}

abbrev pub decreases-loop-out : goal.decreases-loop-out
decreases-loop-out l = length l.out.all
