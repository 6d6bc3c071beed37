use Rattle.std.proofs.Common.{arith, ◌∙◌, ◌≡◌, ◌<◌, ◌≤◌, ◌+◌, ◌-◌, ◌++◌, ◌∷◌, [], ap, sym, subst, refl, drop, length, length-drop, get_or, map, append_assoc}
use Rattle.xa_cell.specs.declared.tokens.Seat.{Seat}
use Rattle.xa_cell.specs.Known.{known, IsNew}
use Rattle.xa_cell.specs.Dealing.{cells_in, left_over, first_only, but_first}
use Rattle.xa_cell.proofs.Lists.{All_push, map_snoc}
use Rattle.xa_cell.proofs.Dealing.{cells_next, drop_next, drop_end, first_split_at, left_of, dealt_caller, dealt_new, last_caller, last_new}
use Rattle.xa_cell.proofs.Seats.{empty_of, caller_is}
use Rattle.xa_cell.proofs.cells.Cells.deal.Goals as goal

pub split_seat-inner-requires : goal.split_seat-inner-requires
split_seat-inner-requires g c = let i = c.loop-i.invariant in let lt = c.loop-i-test.true in let l = length-drop c.loop-i.i c.args.limits.now in
    (i.table, c.args.self.now.some.1, first_split_at _ _ c.loop-i.i c.loop-i.first _ (drop c.loop-i.i c.args.limits.now) (ap (λ m. m.0) i.me) (omega arith))

pub invariant_of-push_reserved : goal.invariant_of-push_reserved
invariant_of-push_reserved g c = let i = c.loop-i.invariant in let lt = c.loop-i-test.true in let k = c.loop-i.i in let f = c.loop-i.first in let ns = c.args.limits.now in let s = c.split_seat-inner.ensures in
    let inside : k < length ns = omega arith in let next = drop_next ns k inside in let cells = cells_next ns k inside in let sum_ = i.first in
    let is = ap (λ m. m.0) i.me ∙ ap (left_over k f) next in record {
      empty = empty_of _ (ap (λ m. m.1) s.4);
      caller = caller_is _ _ _ _ _ _ (ap (λ t. t.words) s.3) (ap (λ m. m.0) s.4 ∙ ap first_only is) (dealt_caller k f (get_or ns k 0) (drop (k + 1) ns) c.loop-i.whole.table_id.words (omega arith));
    }

pub loop-i-preserved : goal.loop-i-preserved
loop-i-preserved g c = let i = c.loop-i.invariant in let lt = c.loop-i-test.true in let k = c.loop-i.i in let f = c.loop-i.first in let ns = c.args.limits.now in let s = c.split_seat-inner.ensures in let p = c.push_reserved.ensures in
    let inside : k < length ns = omega arith in let next = drop_next ns k inside in let cells = cells_next ns k inside in let sum_ = i.first in let last = i.last in let len = p.len in let cap = p.capacity in let dealt = i.dealt in let room = i.room in
    let words = ap (λ t. t.words) s.0 in
    let is = ap (λ m. m.0) i.me ∙ ap (left_over k f) next in let left = ap but_first is ∙ left_of k f (get_or ns k 0) (drop (k + 1) ns) in let none_ = ap (λ m. m.1) i.me in record {
      table = s.0 ∙ i.table;
      me = s.2 ∙ (λ j. (left j, none_ j));
      first = (omega arith);
      last = (omega arith);
      dealt = (omega arith);
      room = (omega arith);
      counts = ap (λ l. map (λ (z : Seat g.row.A.Denot). z.count) l ++ drop (k + 1) ns) p.items ∙ (ap (λ l. l ++ drop (k + 1) ns) (map_snoc (λ (z : Seat g.row.A.Denot). z.count) c.loop-i.seats.items _)
          ∙ (append_assoc (map (λ (z : Seat g.row.A.Denot). z.count) c.loop-i.seats.items) (get_or ns k 0 ∷ []) (drop (k + 1) ns) ∙ (ap (λ l. map (λ (z : Seat g.row.A.Denot). z.count) c.loop-i.seats.items ++ l) (sym next) ∙ i.counts)));
      tables = All_push (λ (z : Seat g.row.A.Denot). z.inner.table_id ≡ c.args.self.now.table.shared.table_id) _ _ _ p.items i.tables (s.3 ∙ i.table);
      news = All_push (λ (z : Seat g.row.A.Denot). IsNew z.first z.count (known z)) _ _ _ p.items i.news (subst (IsNew f (get_or ns k 0)) (sym (ap (λ m. m.0) s.4 ∙ ap first_only is)) (dealt_new k f (get_or ns k 0) (drop (k + 1) ns)));
    }

pub invariant_of-push_reserved-2 : goal.invariant_of-push_reserved-2
invariant_of-push_reserved-2 g c = let i = c.loop-i.invariant in let over = c.loop-i-test.false in let most = c.loop-i.auto.i-end in let k = c.loop-i.i in let f = c.loop-i.first in let ns = c.args.limits.now in
    let some_ = c.requires.some in let inside : k < length ns = omega arith in let last : k ≡ length ns - 1 = omega arith in let next = drop_next ns k inside ∙ ap (λ l. get_or ns k 0 ∷ l) (drop_end ns (k + 1) (omega arith)) in
    let n = get_or ns (length ns - 1) 0 in let is = ap (λ m. m.0) i.me ∙ (ap (left_over k f) next ∙ ap (λ j. left_over k f (get_or ns j 0 ∷ [])) last) in
    let cells = cells_next ns k inside in let none_ = ap cells_in (drop_end ns (k + 1) (omega arith)) in let sum_ = i.first in let same = ap (λ j. get_or ns j 0) last in record {
      empty = empty_of _ (ap (λ m. m.1) i.me);
      caller = caller_is _ _ _ _ _ _ refl is (last_caller k f n c.loop-i.whole.table_id.words (omega arith));
    }

pub returns-clause-table : goal.returns-clause-table
returns-clause-table g c = All_push (λ (z : Seat g.row.A.Denot). z.inner.table_id ≡ c.args.self.now.table.shared.table_id) _ _ _ c.push_reserved-2.ensures.items c.loop-i.invariant.tables c.loop-i.invariant.table

pub returns-clause-counts : goal.returns-clause-counts
returns-clause-counts g c = let i = c.loop-i.invariant in let over = c.loop-i-test.false in let most = c.loop-i.auto.i-end in let k = c.loop-i.i in let f = c.loop-i.first in let ns = c.args.limits.now in
    let some_ = c.requires.some in let inside : k < length ns = omega arith in let last : k ≡ length ns - 1 = omega arith in let next = drop_next ns k inside ∙ ap (λ l. get_or ns k 0 ∷ l) (drop_end ns (k + 1) (omega arith)) in
    let n = get_or ns (length ns - 1) 0 in let is = ap (λ m. m.0) i.me ∙ (ap (left_over k f) next ∙ ap (λ j. left_over k f (get_or ns j 0 ∷ [])) last) in
    ap (map (λ (z : Seat g.row.A.Denot). z.count)) c.push_reserved-2.ensures.items ∙ (map_snoc (λ (z : Seat g.row.A.Denot). z.count) c.loop-i.seats.items _
    ∙ (ap (λ l. map (λ (z : Seat g.row.A.Denot). z.count) c.loop-i.seats.items ++ l) (sym (next ∙ ap (λ j. get_or ns j 0 ∷ []) last)) ∙ i.counts))

pub returns-clause-new : goal.returns-clause-new
returns-clause-new g c = let i = c.loop-i.invariant in let over = c.loop-i-test.false in let most = c.loop-i.auto.i-end in let k = c.loop-i.i in let f = c.loop-i.first in let ns = c.args.limits.now in
    let some_ = c.requires.some in let inside : k < length ns = omega arith in let last : k ≡ length ns - 1 = omega arith in let next = drop_next ns k inside ∙ ap (λ l. get_or ns k 0 ∷ l) (drop_end ns (k + 1) (omega arith)) in
    let n = get_or ns (length ns - 1) 0 in let is = ap (λ m. m.0) i.me ∙ (ap (left_over k f) next ∙ ap (λ j. left_over k f (get_or ns j 0 ∷ [])) last) in
    All_push (λ (z : Seat g.row.A.Denot). IsNew z.first z.count (known z)) _ _ _ c.push_reserved-2.ensures.items c.loop-i.invariant.news (subst (IsNew f n) (sym is) (last_new k f n))
