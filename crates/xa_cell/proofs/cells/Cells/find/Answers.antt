use Rattle.std.proofs.Common.{arith, ◌∙◌, ◌≡◌, ◌<◌, ◌≤◌, ◌+◌, ◌++◌, ◌∷◌, ap, sym, refl, subst, [], length, length-append}
use Rattle.xa_cell.specs.Views.{at}
use Rattle.xa_cell.specs.Changes.{looked}
use Rattle.xa_cell.specs.Places.{Stand}
use Rattle.xa_cell.specs.Rule.{word}
use Rattle.xa_cell.specs.Calls.{after_looks}
use Rattle.xa_cell.proofs.LookStep.{looks_keep}
use Rattle.xa_cell.proofs.Viewed.{stand_trans, looked_caller, looked_stands}
use Rattle.xa_cell.proofs.Looking.{looks_beyond, looks_snoc, none_free_snoc}
use Rattle.xa_cell.proofs.Seats.{caller_is}
use Rattle.xa_cell.proofs.cells.Cells.find.Goals as goal

pub load-word-requires : goal.load-word-requires
load-word-requires g c = let i = c.loop-cell.invariant in let k = c.loop-cell.cell in let high = c.loop-cell-test.true in let sum_ = i.looks.1 in let room = i.caller.room in let wide = i.caller.wide in
    let words = ap (λ t. t.words) c.requires.table in let sized = c.args.self.now.sized.0 in let low : c.args.first ≤ k = omega arith in
    (i.table ∙ c.requires.table, omega arith, looks_keep _ _ _ k c.loop-cell.seat.me.0 c.loop-cell.seat.me.1 (omega arith) (omega arith) (i.caller.own k low high))

pub returns-then-word-eq-FREE-clause-caller : goal.returns-then-word-eq-FREE-clause-caller
returns-then-word-eq-FREE-clause-caller g c = let i = c.loop-cell.invariant in let k = c.loop-cell.cell in let high = c.loop-cell-test.true in let room = i.caller.room in let e = c.load-word.ensures.2 in
    caller_is _ _ _ _ _ _ refl (ap (λ m. m.0) e.4) (looked_caller c.args.first c.args.count c.args.seat.now.table_id.words k c.loop-cell.seat.me.0 i.caller (omega arith) e.0)

pub returns-then-word-eq-FREE-clause-found : goal.returns-then-word-eq-FREE-clause-found
returns-then-word-eq-FREE-clause-found g c = let i = c.loop-cell.invariant in let l = i.looks in let k = c.loop-cell.cell in let f = c.args.first in let n = c.args.count in let high = c.loop-cell-test.true in let sum_ = l.1 in
    let s = c.args.seat.now in let v = s.me.0 in let room = c.requires.caller.room in
    let same = ap (at k) l.3 ∙ looks_beyond f n s.table_id.words f k l.0 v c.requires.caller (omega arith) (omega arith) in
    let e = c.load-word.ensures.2 in let u1 = e.1 in let small = e.2 in let found = e.3 in let free = c.if-word-eq-FREE.true in
    let u0 : e.0 ≡ 0 = omega arith in let a0 : length (at k c.loop-cell.seat.me.0).asked ≡ 0 = omega arith in
    let now = ap (λ m. m.0) e.4 ∙ ap (λ u. looked k u c.loop-cell.seat.me.0) u0 in
    (l.0, omega arith, high, l.2, now ∙ ap (looked k 0) l.3, ap (λ p. length p.asked) (sym same) ∙ a0, found ∙ (λ j. word (same j).count (a0 j) (u0 j)))

pub returns-then-word-eq-FREE-clause-stand : goal.returns-then-word-eq-FREE-clause-stand
returns-then-word-eq-FREE-clause-stand g c = let i = c.loop-cell.invariant in let k = c.loop-cell.cell in let high = c.loop-cell-test.true in let room = i.caller.room in let e = c.load-word.ensures.2 in
    stand_trans c.args.seat.now.me.0 c.loop-cell.seat.me.0 c.load-word.new.seat.me.0 i.stand (subst (Stand c.loop-cell.seat.me.0) (sym (ap (λ m. m.0) e.4)) (looked_stands c.args.first c.args.count c.args.seat.now.table_id.words k c.loop-cell.seat.me.0 i.caller (omega arith) e.0 e.1))

pub loop-cell-preserved : goal.loop-cell-preserved
loop-cell-preserved g c = let i = c.loop-cell.invariant in let l = i.looks in let k = c.loop-cell.cell in let f = c.args.first in let n = c.args.count in let high = c.loop-cell-test.true in let sum_ = l.1 in
    let s = c.args.seat.now in let v = s.me.0 in let cells = s.table_id.words in let room = c.requires.caller.room in let inside : k < cells = omega arith in
    let same = ap (at k) l.3 ∙ looks_beyond f n cells f k l.0 v c.requires.caller (omega arith) (omega arith) in
    let e = c.load-word.ensures.2 in let u1 = e.1 in let small = e.2 in let found = e.3 in let busy = c.if-word-eq-FREE.false in
    let asked = ap (λ p. length p.asked) same in let settled = ap (λ p. p.settled) same in let longer = length-append l.0 (e.0 ∷ []) in record {
      table = c.load-word.ensures.0 ∙ i.table;
      held = ap (λ m. m.1) e.4 ∙ i.held;
      caller = caller_is _ _ _ _ _ _ refl (ap (λ m. m.0) e.4) (looked_caller f n cells k c.loop-cell.seat.me.0 i.caller inside e.0);
      stand = stand_trans v c.loop-cell.seat.me.0 c.load-word.new.seat.me.0 i.stand (subst (Stand c.loop-cell.seat.me.0) (sym (ap (λ m. m.0) e.4)) (looked_stands f n cells k c.loop-cell.seat.me.0 i.caller inside e.0 e.1));
      looks = (l.0 ++ e.0 ∷ [], omega arith, none_free_snoc f k e.0 l.0 v sum_ l.2 (omega (arith, busy)) (omega arith), ap (λ m. m.0) e.4 ∙ (ap (looked k e.0) l.3 ∙ sym (looks_snoc f k e.0 l.0 v sum_)));
    }
