use Rattle.xa_queue.specs.Lanes.{lanes_of}
use Rattle.xa_queue.proofs.Written.{Found}
use Rattle.xa_queue.proofs.lanes.oldest.Given as goal

abbrev pub invariant-loop-lane : goal.invariant-loop-lane
invariant-loop-lane g l = Found (lanes_of l.lanes) l.lane l.found
