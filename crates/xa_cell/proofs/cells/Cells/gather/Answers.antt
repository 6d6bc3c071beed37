use Rattle.std.proofs.Common.{◌∙◌, ◌++◌, ◌∷◌, [], Some, arith, ap, ◌≡◌, sym, subst}
use Rattle.std.proofs.lemmas.List.Elements.{All-pop}
use Rattle.xa_cell.specs.declared.tokens.Seat.{Seat}
use Rattle.xa_cell.specs.Gathered.{Gathers}
use Rattle.xa_cell.proofs.Lists.{none_in}
use Rattle.xa_cell.proofs.JoinStep.{joins_keep}
use Rattle.xa_cell.proofs.Gathering.{gathers_one, gathers_more, one_more}
use Rattle.xa_cell.proofs.cells.Cells.gather.Goals as goal

pub loop-next-init : goal.loop-next-init
loop-next-init g c = let s = c.in-Some.last in let items = c.in-Some.ensures.items in
    let tables = All-pop (λ (z : Seat g.row.A.Denot). z.inner.table_id ≡ c.args.self.now.table.shared.table_id) _ _ (Some s) items c.requires.table in record {
      table = tables.1;
      empty = ap (λ m. m.1) s.empty;
      gone = (s ∷ [], sym items, gathers_one s);
      tables = tables.0;
    }

pub join_seat-requires : goal.join_seat-requires
join_seat-requires g c = let i = c.loop-next.invariant in let s = c.in-Some-pop.next in
    let tables = All-pop (λ (z : Seat g.row.A.Denot). z.inner.table_id ≡ c.args.self.now.table.shared.table_id) _ _ (Some s) c.in-Some-pop.ensures.items i.tables in
    (i.table, tables.1, ap (λ m. m.1) s.empty, c.args.self.now.some.1, joins_keep _ _ _ _ _)

pub loop-next-preserved : goal.loop-next-preserved
loop-next-preserved g c = let i = c.loop-next.invariant in let s = c.in-Some-pop.next in let j = c.join_seat.ensures in let items = c.in-Some-pop.ensures.items in
    let tables = All-pop (λ (z : Seat g.row.A.Denot). z.inner.table_id ≡ c.args.self.now.table.shared.table_id) _ _ (Some s) items i.tables in record {
      table = j.0 ∙ i.table;
      empty = ap (λ m. m.1) j.2 ∙ i.empty;
      gone = (s ∷ i.gone.0, one_more _ _ _ _ s items i.gone.1, subst (Gathers (s ∷ i.gone.0)) (sym (ap (λ m. m.0) j.2)) (gathers_more s i.gone.0 _ i.gone.2));
      tables = tables.0;
    }

pub returns : goal.returns
returns g c = let i = c.loop-next.invariant in let none = none_in c.loop-next.seats.items (omega (arith, c.in_default-pop.ensures.cases.0, c.loop-next.seats.ok)) in record {
  table = i.table;
  empty = i.empty;
  gathered = subst (λ ss. Gathers ss c.loop-next.all.me.0) (ap (λ l. l ++ i.gone.0) (sym none) ∙ i.gone.1) i.gone.2;
}
