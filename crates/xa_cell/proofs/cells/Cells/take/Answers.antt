use Rattle.std.proofs.Common.{arith, ◌∙◌, ◌≡◌, ◌<◌, ◌∷◌, [], ap, sym, subst, length, Some, None}
use Rattle.atomic_table.specs.Table.{rest}
use Rattle.xa_cell.specs.declared.view.Carried.TheVariants.{Answer}
use Rattle.xa_cell.specs.Views.{at}
use Rattle.xa_cell.specs.Changes.{took}
use Rattle.xa_cell.specs.Places.{Shuts}
use Rattle.xa_cell.specs.Steps.{freed, taking}
use Rattle.xa_cell.proofs.Lists.{one_in}
use Rattle.xa_cell.proofs.TakeStep.{takes_keep}
use Rattle.xa_cell.proofs.FreeStep.{frees_at}
use Rattle.xa_cell.proofs.Viewed.{took_caller, took_shuts, inside_parts}
use Rattle.xa_cell.proofs.Joining.{taking_at, taking_long, freed_is}
use Rattle.xa_cell.proofs.Seats.{empty_of, caller_is, moved_slot, has_slot, slot_found}
use Rattle.xa_cell.proofs.Growing.{took_more}
use Rattle.xa_cell.proofs.cells.Cells.take.Goals as goal

pub load-requires : goal.load-requires
load-requires g c = let s = c.args.seat.now in let k = c.args.place.cell in let come = c.requires.come in let open_ = come.0 in let range = s.caller.mine k open_ in let high = range.1 in let room = s.caller.room in let wide = s.caller.wide in
    let words = ap (λ t. t.words) c.requires.table in let sized = c.args.self.now.sized.0 in let one = s.caller.one in let few = s.caller.few k in let asked = one_in (at k s.inner.me.0).asked (omega arith) in
    (c.requires.table, omega arith, takes_keep _ _ _ k s.inner.me.0 asked.0 s.inner.me.1 (omega arith) (omega arith) (omega arith) (s.caller.own k range.0 high) asked.1 come.1 (s.caller.calm k).taking)

pub exchange-answer-requires : goal.exchange-answer-requires
exchange-answer-requires g c = let k = c.args.place.cell in let t = c.load.ensures.2 in (c.load.ensures.0 ∙ c.requires.table, has_slot _ _ k _ _ t.3)

pub fetch_sub-requires : goal.fetch_sub-requires
fetch_sub-requires g c = let s = c.args.seat.now in let k = c.args.place.cell in let v = s.inner.me.0 in let range = s.caller.mine k c.requires.come.0 in let high = range.1 in let room = s.caller.room in let cells = s.inner.table_id.words in let inside : k < cells = omega arith in
    let words = ap (λ t. t.words) c.requires.table in let sized = c.args.self.now.sized.0 in let t = c.load.ensures.2 in
    let now = moved_slot _ _ (taking k t.0 t.1 v) k _ None _ t.3 (ap (λ m. m.1) s.empty) c.exchange-answer.ensures.3 in let here = taking_at s.first s.count cells k v s.caller inside t.0 t.1 in
    (c.exchange-answer.ensures.0 ∙ (c.load.ensures.0 ∙ c.requires.table), omega arith, frees_at _ _ _ k _ (taking k t.0 t.1 v) now (omega arith) (taking_long s.first s.count cells k v s.caller inside t.0 t.1) (ap (λ p. length p.owners) here ∙ s.caller.own k range.0 high) (ap (λ p. p.taking) here))

pub invariant_of-seat : goal.invariant_of-seat
invariant_of-seat g c = let s = c.args.seat.now in let k = c.args.place.cell in let v = s.inner.me.0 in let range = s.caller.mine k c.requires.come.0 in let high = range.1 in let room = s.caller.room in let cells = s.inner.table_id.words in let inside : k < cells = omega arith in
    let t = c.load.ensures.2 in let now = moved_slot _ _ (taking k t.0 t.1 v) k _ None _ t.3 (ap (λ m. m.1) s.empty) c.exchange-answer.ensures.3 in let y = c.fetch_sub.ensures in record {
      empty = empty_of _ (ap (λ m. m.1) y.2 ∙ ap (λ m. rest m.1) now);
      caller = caller_is _ _ _ _ _ _ (ap (λ z. z.words) (y.0 ∙ (c.exchange-answer.ensures.0 ∙ c.load.ensures.0))) (ap (λ m. m.0) y.2 ∙ (ap (λ m. freed k m.0) now ∙ freed_is s.first s.count cells k v s.caller inside t.0 t.1)) (took_caller s.first s.count cells k v s.caller inside t.0 t.1);
    }

pub answer_in-requires : goal.answer_in-requires
answer_in-requires g c = let t = c.load.ensures.2 in (t.1, sym (slot_found _ _ _ _ _ _ (ap (λ m. m.1) t.3) c.exchange-answer.ensures.2))

pub returns-clause-known : goal.returns-clause-known
returns-clause-known g c = let s = c.args.seat.now in let k = c.args.place.cell in let v = s.inner.me.0 in let range = s.caller.mine k c.requires.come.0 in let high = range.1 in let room = s.caller.room in let cells = s.inner.table_id.words in let inside : k < cells = omega arith in
    let t = c.load.ensures.2 in let now = moved_slot _ _ (taking k t.0 t.1 v) k _ None _ t.3 (ap (λ m. m.1) s.empty) c.exchange-answer.ensures.3 in
    let found = slot_found _ _ _ _ _ _ (ap (λ m. m.1) t.3) c.exchange-answer.ensures.2 in let same : t.1 ≡ c.answer_in.result = cc (found, c.answer_in.ensures) in
    (t.0, t.2, ap (λ m. m.0) c.fetch_sub.ensures.2 ∙ (ap (λ m. freed k m.0) now ∙ (freed_is s.first s.count cells k v s.caller inside t.0 t.1 ∙ ap (λ a. took k t.0 a v) same)))

pub returns-clause-shut : goal.returns-clause-shut
returns-clause-shut g c = let s = c.args.seat.now in let k = c.args.place.cell in let v = s.inner.me.0 in let range = s.caller.mine k c.requires.come.0 in let high = range.1 in let room = s.caller.room in let cells = s.inner.table_id.words in let inside : k < cells = omega arith in
    let t = c.load.ensures.2 in let now = moved_slot _ _ (taking k t.0 t.1 v) k _ None _ t.3 (ap (λ m. m.1) s.empty) c.exchange-answer.ensures.3 in let y = c.fetch_sub.ensures in
    subst (Shuts k v) (sym (ap (λ m. m.0) y.2 ∙ (ap (λ m. freed k m.0) now ∙ freed_is s.first s.count cells k v s.caller inside t.0 t.1))) (took_shuts s.first s.count cells k v s.caller inside t.0 t.1)

pub returns-clause-more : goal.returns-clause-more
returns-clause-more g c = let s = c.args.seat.now in let k = c.args.place.cell in let v = s.inner.me.0 in let range = s.caller.mine k c.requires.come.0 in let high = range.1 in let room = s.caller.room in let cells = s.inner.table_id.words in let inside : k < cells = omega arith in
    took_more k _ v _ (inside_parts s.first s.count cells k v s.caller inside) (returns-clause-known g c)
