use Rattle.std.proofs.Common.{arith, ◌∙◌, ◌≡◌, ◌<◌, ◌-◌, ap, sym, subst}
use Rattle.xa_cell.specs.Views.{at}
use Rattle.xa_cell.specs.Changes.{looked}
use Rattle.xa_cell.specs.Places.{Stand}
use Rattle.xa_cell.proofs.LookStep.{looks_keep}
use Rattle.xa_cell.proofs.Viewed.{looked_caller, looked_at, looked_stands}
use Rattle.xa_cell.proofs.Seats.{empty_of, caller_is}
use Rattle.xa_cell.specs.declared.owner.Look.TheVariants.{Pending, Come}
use Rattle.xa_cell.proofs.Growing.{look_keeps}
use Rattle.xa_cell.proofs.cells.Cells.look.Goals as goal

pub load-word-requires : goal.load-word-requires
load-word-requires g c = let s = c.args.seat.now in let k = c.args.place.now.cell in let range = s.caller.mine k c.requires.place in let high = range.1 in let room = s.caller.room in let wide = s.caller.wide in
    let words = ap (λ t. t.words) c.requires.table in let sized = c.args.self.now.sized.0 in
    (c.requires.table, omega arith, looks_keep _ _ _ k s.inner.me.0 s.inner.me.1 (omega arith) (omega arith) (s.caller.own k range.0 high))

pub invariant_of-seat : goal.invariant_of-seat
invariant_of-seat g c = let s = c.args.seat.now in let k = c.args.place.now.cell in let range = s.caller.mine k c.requires.place in let high = range.1 in let room = s.caller.room in let e = c.load-word.ensures in let is = e.2.4 in record {
  empty = empty_of _ (ap (λ m. m.1) is ∙ ap (λ m. m.1) s.empty);
  caller = caller_is _ _ _ _ _ _ (ap (λ t. t.words) e.0) (ap (λ m. m.0) is) (looked_caller s.first s.count s.inner.table_id.words k s.inner.me.0 s.caller (omega arith) e.2.0);
}

pub returns-then-word-eq-FILLED-clause-known : goal.returns-then-word-eq-FILLED-clause-known
returns-then-word-eq-FILLED-clause-known g c = let s = c.args.seat.now in let k = c.args.place.now.cell in let range = s.caller.mine k c.requires.place in let high = range.1 in let room = s.caller.room in let e = c.load-word.ensures.2 in let is = ap (λ m. m.0) e.4 in
    let u1 = e.1 in let small = e.2 in let found = e.3 in let two = c.if-word-eq-FILLED.true in let open_ = c.requires.place in let u0 : e.0 ≡ 0 = omega arith in
    let settled = ap (λ w. (at k w).settled) is ∙ (ap (λ p. p.settled) (looked_at s.first s.count s.inner.table_id.words k s.inner.me.0 s.caller (omega arith) e.0) ∙ ap (λ u. 1 - u) u0) in
    (is ∙ ap (λ u. looked k u s.inner.me.0) u0, omega arith)

pub returns-else-word-eq-FILLED-clause-known : goal.returns-else-word-eq-FILLED-clause-known
returns-else-word-eq-FILLED-clause-known g c = let s = c.args.seat.now in let k = c.args.place.now.cell in let e = c.load-word.ensures.2 in
    let u1 = e.1 in let small = e.2 in let found = e.3 in let two = c.if-word-eq-FILLED.false in let open_ = c.requires.place in let u : e.0 ≡ 1 = omega (arith, two) in
    ap (λ m. m.0) e.4 ∙ ap (λ n. looked k n s.inner.me.0) u

pub returns-then-word-eq-FILLED-clause-open : goal.returns-then-word-eq-FILLED-clause-open
returns-then-word-eq-FILLED-clause-open g c = let s = c.args.seat.now in let k = c.args.place.now.cell in let range = s.caller.mine k c.requires.place in let high = range.1 in let room = s.caller.room in let e = c.load-word.ensures.2 in
    subst (Stand s.inner.me.0) (sym (ap (λ m. m.0) e.4)) (looked_stands s.first s.count s.inner.table_id.words k s.inner.me.0 s.caller (omega arith) e.0 e.1)

pub returns-else-word-eq-FILLED-clause-open : goal.returns-else-word-eq-FILLED-clause-open
returns-else-word-eq-FILLED-clause-open g c = let s = c.args.seat.now in let k = c.args.place.now.cell in let range = s.caller.mine k c.requires.place in let high = range.1 in let room = s.caller.room in let e = c.load-word.ensures.2 in
    subst (Stand s.inner.me.0) (sym (ap (λ m. m.0) e.4)) (looked_stands s.first s.count s.inner.table_id.words k s.inner.me.0 s.caller (omega arith) e.0 e.1)

pub returns-then-word-eq-FILLED-clause-keeps : goal.returns-then-word-eq-FILLED-clause-keeps
returns-then-word-eq-FILLED-clause-keeps g c = look_keeps c.args.place.now.cell _ _ Come (returns-then-word-eq-FILLED-clause-known g c)

pub returns-else-word-eq-FILLED-clause-keeps : goal.returns-else-word-eq-FILLED-clause-keeps
returns-else-word-eq-FILLED-clause-keeps g c = look_keeps c.args.place.now.cell _ _ Pending (returns-else-word-eq-FILLED-clause-known g c)
