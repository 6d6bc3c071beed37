use Rattle.std.proofs.Common.{◌≡◌, ◌+◌, sym, ◌∙◌, ap, subst, arith}
use Rattle.std.proofs.lemmas.List.{length-map}
use Rattle.xa_queue.specs.Lanes.{lanes_of, lane_at, first_age}
use Rattle.xa_queue.proofs.Written.{Found, lane-read, older-found}
use Rattle.xa_queue.proofs.lanes.oldest.Goals as goal

pub loop-lane-preserved : goal.loop-lane-preserved
loop-lane-preserved g c =
    let lanes = lanes_of c.args.lanes.now in
    let lane = c.loop-lane.lane in
    let is : first_age (lane_at lanes lane) ≡ c.first_age.result = ap first_age (lane-read c.args.lanes.now lane c.index-lanes-lane.result c.loop-lane-test.true c.index-lanes-lane.is) ∙ sym c.first_age.ensures in
    subst (Found lanes (lane + 1)) (sym c.older-found.ensures) (older-found lanes lane c.loop-lane.found c.first_age.result (omega (arith, c.loop-lane-test.true, length-map c.args.lanes.now (λ l. l.items))) is c.loop-lane.invariant)
