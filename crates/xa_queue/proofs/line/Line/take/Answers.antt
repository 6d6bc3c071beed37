use Rattle.std.proofs.Common.{List, length, map, ap, arith, subst}
use Rattle.xa_queue.specs.declared.entry.Entry.{Entry}
use Rattle.xa_queue.specs.Line.{InLine, TakesOut}
use Rattle.xa_queue.specs.Lanes.{lanes_of, entry_of, all_in, AreEmpty, IsChosenLane}
use Rattle.std.proofs.lemmas.List.{length-map}
use Rattle.xa_queue.proofs.Lined.{nothing_in, chosen_within, chosen_leaves, taken-keeps, taken-out}
use Rattle.xa_queue.proofs.line.Line.take.Goals as goal

pub unreachable-requires : goal.unreachable-requires
unreachable-requires g c =
    let lanes = lanes_of c.self.inside.lanes.items in
    let empty : AreEmpty lanes = subst (λ l. AreEmpty (lanes_of l)) c.deref.ensures.value c.in_default.ensures in
    let none = nothing_in lanes c.self.inside.next c.self.inside.count c.self.invariant empty in
    let waits = ap (λ (line : InLine g.row.C.Denot). length line.waiting) c.self.view_is in
    let short = ap (λ (w : List (Entry g.row.C.Denot)). length w) none in
    omega (arith, waits, short, c.requires)

pub pop-entry-requires : goal.pop-entry-requires
pop-entry-requires g c =
    let lanes = lanes_of c.self.inside.lanes.items in
    let chosen : IsChosenLane c.args.oldest lanes c.in-Some.lane = subst (λ l. IsChosenLane c.args.oldest (lanes_of l) c.in-Some.lane) c.deref.ensures.value c.in-Some.ensures in
    let within = chosen_within c.args.oldest lanes c.in-Some.lane chosen in
    record { lane = omega (arith, within.0, length-map c.self.inside.lanes.items (λ l. l.items)); some = within.1 }

pub invariant_of-self : goal.invariant_of-self
invariant_of-self g c =
    let lanes = lanes_of c.self.inside.lanes.items in
    let chosen : IsChosenLane c.args.oldest lanes c.in-Some.lane = subst (λ l. IsChosenLane c.args.oldest (lanes_of l) c.in-Some.lane) c.deref.ensures.value c.in-Some.ensures in
    let leaves = chosen_leaves c.args.oldest lanes c.self.inside.next c.self.inside.count c.in-Some.lane _ c.pop-entry.result c.self.invariant chosen c.pop-entry.ensures.first in
    taken-keeps c.args.oldest lanes (lanes_of c.pop-entry.new.lanes.items) c.self.inside.next c.self.inside.count c.in-Some.lane c.pop-entry.result leaves c.pop-entry.ensures.rest

pub returns-clause-taken : goal.returns-clause-taken
returns-clause-taken g c =
    let lanes = lanes_of c.self.inside.lanes.items in
    let chosen : IsChosenLane c.args.oldest lanes c.in-Some.lane = subst (λ l. IsChosenLane c.args.oldest (lanes_of l) c.in-Some.lane) c.deref.ensures.value c.in-Some.ensures in
    let leaves = chosen_leaves c.args.oldest lanes c.self.inside.next c.self.inside.count c.in-Some.lane _ c.pop-entry.result c.self.invariant chosen c.pop-entry.ensures.first in
    let out = taken-out c.args.oldest lanes (lanes_of c.pop-entry.new.lanes.items) c.self.inside.next c.self.inside.count c.in-Some.lane c.pop-entry.result leaves c.pop-entry.ensures.rest in
    subst (λ (line : InLine g.row.C.Denot). TakesOut c.args.oldest line.waiting c.pop-entry.result.entry (map entry_of (all_in (lanes_of c.pop-entry.new.lanes.items)))) c.self.view_is out
