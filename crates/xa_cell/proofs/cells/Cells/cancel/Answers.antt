use Rattle.std.proofs.Common.{arith, ◌∙◌, ◌≡◌, ◌≢◌, ◌<◌, ◌-◌, ◌+◌, ◌%◌, [], ap, sym, subst, refl, length, ⊎_elim}
use Rattle.xa_cell.specs.Views.{at}
use Rattle.xa_cell.specs.Changes.{looked, cancelled}
use Rattle.xa_cell.specs.Places.{Shuts}
use Rattle.xa_cell.specs.Rule.{word}
use Rattle.xa_cell.proofs.Lists.{decided}
use Rattle.xa_cell.proofs.LookStep.{looks_keep}
use Rattle.xa_cell.proofs.CancelStep.{cancels_at}
use Rattle.xa_cell.proofs.Viewed.{looked_caller, looked_at, looked_else, cancelled_caller, cancelled_shuts, shuts_after, inside_parts}
use Rattle.xa_cell.proofs.Seats.{empty_of, caller_is}
use Rattle.xa_cell.specs.Growing.{Keeps}
use Rattle.xa_cell.proofs.Growing.{keeps_trans, looked_keeps, cancelled_keeps, more_behind}
use Rattle.xa_cell.proofs.cells.Cells.cancel.Goals as goal

pub load-word-requires : goal.load-word-requires
load-word-requires g c = let s = c.args.seat.now in let k = c.args.place.cell in let v = s.inner.me.0 in let cells = s.inner.table_id.words in let range = s.caller.mine k c.requires.place in let high = range.1 in let room = s.caller.room in let inside : k < cells = omega arith in
    let wide = s.caller.wide in let words = ap (λ t. t.words) c.requires.table in let sized = c.args.self.now.sized.0 in
    (c.requires.table, omega arith, looks_keep _ _ _ k v s.inner.me.1 (omega arith) (omega arith) (s.caller.own k range.0 high))

pub compare_exchange-found-requires : goal.compare_exchange-found-requires
compare_exchange-found-requires g c = let s = c.args.seat.now in let k = c.args.place.cell in let v = s.inner.me.0 in let cells = s.inner.table_id.words in let range = s.caller.mine k c.requires.place in let high = range.1 in let room = s.caller.room in let inside : k < cells = omega arith in
    let l = c.load-word.ensures in let u = l.2.0 in let then_ = looked_caller s.first s.count cells k v s.caller inside u in let here = looked_at s.first s.count cells k v s.caller inside u in
    let words = ap (λ t. t.words) c.requires.table in let sized = c.args.self.now.sized.0 in
    let u1 = l.2.1 in let small = l.2.2 in let found = l.2.3 in let open_ = c.requires.place in let few = s.caller.few k in let p = c.with_state-pending.ensures in let q = c.with_state-cancelled.ensures in
    let old : c.with_state-pending.result ≡ word (at k v).count 1 1 = omega arith in let new : c.with_state-cancelled.result ≡ word (at k v).count 0 1 = omega arith in
    let one : length (at k v).asked ≡ 1 = omega arith in
    (l.0 ∙ c.requires.table, omega arith, cancels_at _ _ _ k _ (looked k u v) s.inner.me.1 _ _ l.2.4 (omega arith) (inside_parts s.first s.count cells k (looked k u v) then_ inside) (old ∙ ap (λ p. word p.count 1 1) (sym here)) (new ∙ ap (λ p. word p.count 0 1) (sym here)) (then_.own k range.0 high) (ap (λ p. length p.asked) here ∙ one) (then_.calm k).taking)

pub invariant_of-seat : goal.invariant_of-seat
invariant_of-seat g c = let s = c.args.seat.now in let k = c.args.place.cell in let v = s.inner.me.0 in let cells = s.inner.table_id.words in let range = s.caller.mine k c.requires.place in let high = range.1 in let room = s.caller.room in let inside : k < cells = omega arith in
    let l = c.load-word.ensures in let u = l.2.0 in let then_ = looked_caller s.first s.count cells k v s.caller inside u in let w = looked k u v in let x = c.compare_exchange-found.ensures in let none_ = ap (λ m. m.1) l.2.4 ∙ ap (λ m. m.1) s.empty in let words = ap (λ t. t.words) (x.0 ∙ l.0) in
    ⊎_elim
    (λ (e : c.compare_exchange-found.result ≡ c.with_state-pending.result). let now = x.2.0 e in record {
      empty = empty_of _ (ap (λ m. m.1) now ∙ none_);
      caller = caller_is _ _ _ _ _ _ words (ap (λ m. m.0) now ∙ ap (λ m. cancelled k m.0) l.2.4) (cancelled_caller s.first s.count cells k w then_ inside);
    })
    (λ (ne : c.compare_exchange-found.result ≢ c.with_state-pending.result). let now = x.2.1 ne in record {
      empty = empty_of _ (ap (λ m. m.1) now ∙ none_);
      caller = caller_is _ _ _ _ _ _ words (ap (λ m. m.0) now ∙ ap (λ m. looked k 0 m.0) l.2.4) (looked_caller s.first s.count cells k w then_ inside 0);
    }) (decided c.compare_exchange-found.result c.with_state-pending.result)

pub take-requires-clause-come : goal.take-requires-clause-come
take-requires-clause-come g c = let s = c.args.seat.now in let k = c.args.place.cell in let v = s.inner.me.0 in let cells = s.inner.table_id.words in let range = s.caller.mine k c.requires.place in let high = range.1 in let room = s.caller.room in let inside : k < cells = omega arith in
    let l = c.load-word.ensures in let u = l.2.0 in let then_ = looked_caller s.first s.count cells k v s.caller inside u in let here = looked_at s.first s.count cells k v s.caller inside u in
    let now = c.compare_exchange-found.ensures.2.1 c.if-is_first.false in let w = looked k u v in let is = ap (λ m. m.0) now ∙ ap (λ m. looked k 0 m.0) l.2.4 in let again = looked_at s.first s.count cells k w then_ inside 0 in
    let a = ap (λ x. length (at k x).asked) is ∙ (ap (λ p. length p.asked) again ∙ ap (λ p. length p.asked) here) in let b = ap (λ x. (at k x).settled) is ∙ ap (λ p. p.settled) again in let open_ = c.requires.place in
    ((omega arith), omega arith)

pub returns-then-is_first-clause-shut : goal.returns-then-is_first-clause-shut
returns-then-is_first-clause-shut g c = let s = c.args.seat.now in let k = c.args.place.cell in let v = s.inner.me.0 in let cells = s.inner.table_id.words in let range = s.caller.mine k c.requires.place in let high = range.1 in let room = s.caller.room in let inside : k < cells = omega arith in
    let l = c.load-word.ensures in let u = l.2.0 in let then_ = looked_caller s.first s.count cells k v s.caller inside u in let here = looked_at s.first s.count cells k v s.caller inside u in
    let now = c.compare_exchange-found.ensures.2.0 c.if-is_first.true in let is = ap (λ m. m.0) now ∙ ap (λ m. cancelled k m.0) l.2.4 in
    subst (Shuts k v) (sym is) (shuts_after k v (looked k u v) _ (looked_else s.first s.count cells k v s.caller inside u) (cancelled_shuts s.first s.count cells k (looked k u v) then_ inside))

pub returns-else-is_first-clause-shut : goal.returns-else-is_first-clause-shut
returns-else-is_first-clause-shut g c = let s = c.args.seat.now in let k = c.args.place.cell in let v = s.inner.me.0 in let cells = s.inner.table_id.words in let range = s.caller.mine k c.requires.place in let high = range.1 in let room = s.caller.room in let inside : k < cells = omega arith in
    let l = c.load-word.ensures in let u = l.2.0 in let then_ = looked_caller s.first s.count cells k v s.caller inside u in let here = looked_at s.first s.count cells k v s.caller inside u in
    let now = c.compare_exchange-found.ensures.2.1 c.if-is_first.false in let w = looked k u v in let is = ap (λ m. m.0) now ∙ ap (λ m. looked k 0 m.0) l.2.4 in
    shuts_after k v _ _ (λ j ne. ap (at j) is ∙ (looked_else s.first s.count cells k w then_ inside 0 j ne ∙ looked_else s.first s.count cells k v s.caller inside u j ne)) c.take.ensures.shut

pub returns-then-is_first-clause-more : goal.returns-then-is_first-clause-more
returns-then-is_first-clause-more g c = let k = c.args.place.cell in let v = c.args.seat.now.inner.me.0 in let l = c.load-word.ensures in let w = looked k l.2.0 v in
    let now = c.compare_exchange-found.ensures.2.0 c.if-is_first.true in let is = ap (λ m. m.0) now ∙ ap (λ m. cancelled k m.0) l.2.4 in
    subst (Keeps v) (sym is) (keeps_trans v w (cancelled k w) (looked_keeps k l.2.0 v) (cancelled_keeps k w))

pub returns-else-is_first-clause-more : goal.returns-else-is_first-clause-more
returns-else-is_first-clause-more g c = let s = c.args.seat.now in let k = c.args.place.cell in let v = s.inner.me.0 in let cells = s.inner.table_id.words in let range = s.caller.mine k c.requires.place in let high = range.1 in let room = s.caller.room in let inside : k < cells = omega arith in
    let l = c.load-word.ensures in let u = l.2.0 in let then_ = looked_caller s.first s.count cells k v s.caller inside u in let here = looked_at s.first s.count cells k v s.caller inside u in
    let now = c.compare_exchange-found.ensures.2.1 c.if-is_first.false in let w = looked k u v in let is = ap (λ m. m.0) now ∙ ap (λ m. looked k 0 m.0) l.2.4 in let again = looked_at s.first s.count cells k w then_ inside 0 in
    let asked = ap (λ x. (at k x).asked) is ∙ (ap (λ p. p.asked) again ∙ ap (λ p. p.asked) here) in
    more_behind k _ v _ _ asked (subst (Keeps v) (sym is) (keeps_trans v w (looked k 0 w) (looked_keeps k u v) (looked_keeps k 0 w))) c.take.ensures.more
