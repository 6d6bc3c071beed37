use Rattle.std.proofs.Common.{◌+◌, ◌≤◌, ◌∷◌, ◌++◌, [], List, ap, ◌∙◌, arith}
use Rattle.xa_queue.specs.declared.entry.Entry.{Entry}
use Rattle.xa_queue.specs.declared.entry.Aged.{Aged}
use Rattle.xa_queue.specs.Line.{InLine}
use Rattle.xa_queue.specs.Lanes.{lanes_of, all_in}
use Rattle.xa_queue.proofs.Lined.{put-keeps, put-waiting, Keeps-itself}
use Rattle.xa_queue.proofs.line.Line.push.Goals as goal

pub invariant_of-self : goal.invariant_of-self
invariant_of-self g c =
    let a : Aged g.row.C.Denot = record { age = c.args.age; entry = c.args.entry } in
    let young : c.self.inside.next ≤ c.args.age = let is = ap (λ (line : InLine g.row.C.Denot). line.next) c.self.view_is in omega (arith, is, c.requires.young) in
    let lanes = lanes_of c.self.inside.lanes.items in
    Keeps-itself _ _ _ (all_in lanes ++ a ∷ []) (put-keeps lanes (lanes_of c.push.new.lanes.items) c.self.inside.next c.self.inside.count a c.self.invariant c.requires.priority.0 c.requires.priority.1 young c.in-Ok.ensures.pushed)

pub returns-in-Ok-clause-pushed : goal.returns-in-Ok-clause-pushed
returns-in-Ok-clause-pushed g c =
    let a : Aged g.row.C.Denot = record { age = c.args.age; entry = c.args.entry } in
    let view = c.self.view_is in
    let young : c.self.inside.next ≤ c.args.age = let is = ap (λ (line : InLine g.row.C.Denot). line.next) view in omega (arith, is, c.requires.young) in
    let lanes = lanes_of c.self.inside.lanes.items in
    let line : List (Entry g.row.C.Denot) → InLine g.row.C.Denot = λ w. record { waiting = w; next = c.args.age + 1 } in
    let keeps = put-keeps lanes (lanes_of c.push.new.lanes.items) c.self.inside.next c.self.inside.count a c.self.invariant c.requires.priority.0 c.requires.priority.1 young c.in-Ok.ensures.pushed in
    ap line (put-waiting lanes (lanes_of c.push.new.lanes.items) _ _ a keeps ∙ ap (λ (l : InLine g.row.C.Denot). l.waiting ++ a.entry ∷ []) view)
