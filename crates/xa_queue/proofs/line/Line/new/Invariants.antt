use Rattle.std.proofs.Common.{◌≡◌, [], replicate, vec_len, vec_capacity}
use Rattle.xa_queue.specs.Lanes.{lanes_of}
use Rattle.xa_queue.proofs.line.Line.new.Given as goal

abbrev pub invariant-loop : goal.invariant-loop
invariant-loop g l = (lanes_of l.lanes.items ≡ replicate l.counter []) × (vec_len l.lanes ≡ l.counter) × (vec_capacity l.lanes ≡ 100)
