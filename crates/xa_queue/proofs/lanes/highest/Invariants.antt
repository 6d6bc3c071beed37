use Rattle.std.proofs.Common.{◌≡◌, ℕ, ◌<◌, ◌≤◌, [], length}
use Rattle.xa_queue.specs.Lanes.{lanes_of, lane_at}
use Rattle.xa_queue.proofs.lanes.highest.Given as goal

abbrev pub invariant-loop-left : goal.invariant-loop-left
invariant-loop-left g l = (l.left ≤ length l.lanes) × ((k : ℕ) → l.left ≤ k → k < length l.lanes → lane_at (lanes_of l.lanes) k ≡ [])

abbrev pub decreases-loop-left : goal.decreases-loop-left
decreases-loop-left g l = l.left
