use Rattle.std.proofs.Common.{◌≡◌, Some, Global, ap, ◌∙◌}
use Rattle.std.proofs.lemmas.List.Elements.{All-pop}
use Rattle.std.specs.declared.collections.VecDeque.{VecDeque}
use Rattle.xa_queue.specs.declared.entry.Aged.{Aged}
use Rattle.xa_queue.specs.Line.{InLine}
use Rattle.xa_queue.proofs.Lined.{each_empty}
use Rattle.xa_queue.proofs.line.Line.free.Goals as goal

pub loop-lane-init : goal.loop-lane-init
loop-lane-init g c =
    each_empty c.self.inside.lanes.items c.self.inside.next c.self.inside.count c.self.invariant (ap (λ (line : InLine g.row.C.Denot). line.waiting) c.self.view_is ∙ c.requires)

pub destroy_empty-requires : goal.destroy_empty-requires
destroy_empty-requires g c =
    let P : VecDeque (Aged g.row.C.Denot) Global → Type 0 = λ lane. lane.len ≡ 0 in
    (All-pop P c.loop-lane.lanes.items c.pop.new.self.items (Some c.in-Some.lane) c.in-Some.ensures.items c.loop-lane.invariant).1

pub loop-lane-preserved : goal.loop-lane-preserved
loop-lane-preserved g c =
    let P : VecDeque (Aged g.row.C.Denot) Global → Type 0 = λ lane. lane.len ≡ 0 in
    (All-pop P c.loop-lane.lanes.items c.pop.new.self.items (Some c.in-Some.lane) c.in-Some.ensures.items c.loop-lane.invariant).0
