use Rattle.std.proofs.Common.{◌≡◌, ◌++◌, ◌∷◌, [], List, map, replicate, ap, ◌∙◌, arith}
use Rattle.std.proofs.lemmas.List.{map_push, replicate_more}
use Rattle.xa_queue.specs.declared.entry.Aged.{Aged}
use Rattle.xa_queue.specs.Line.{InLine}
use Rattle.xa_queue.specs.Lanes.{lanes_of, entry_of}
use Rattle.xa_queue.proofs.ByAge.{all_in-kept}
use Rattle.xa_queue.proofs.Lined.{Keeps-none, Keeps-itself}
use Rattle.xa_queue.proofs.line.Line.new.Goals as goal

pub loop-preserved : goal.loop-preserved
loop-preserved g c =
    let i = c.loop.invariant in
    let p = c.push_reserved.ensures in
    let more = ap lanes_of p.items ∙ (map_push _ c.loop.lanes.items _ ∙ (λ k. i.0 k ++ c.new.ensures.items k ∷ [])) in
    (more ∙ replicate_more c.loop.counter [], omega (arith, p.len, i.1), p.capacity ∙ i.2)

pub invariant_of-result : goal.invariant_of-result
invariant_of-result g c =
    let full : c.loop.counter ≡ 100 = omega arith in
    let lanes = lanes_of c.loop.lanes.items in
    Keeps-itself lanes 0 0 [] (Keeps-none lanes (c.loop.invariant.0 ∙ ap (λ n. replicate n []) full))

pub returns : goal.returns
returns g c =
    let full : c.loop.counter ≡ 100 = omega arith in
    let lanes = lanes_of c.loop.lanes.items in
    let keeps = Keeps-none lanes (c.loop.invariant.0 ∙ ap (λ n. replicate n []) full) in
    let line : List (Aged g.row.C.Denot) → InLine g.row.C.Denot = λ w. record { waiting = map entry_of w; next = 0 } in
    ap line (all_in-kept lanes 0 0 [] keeps)
