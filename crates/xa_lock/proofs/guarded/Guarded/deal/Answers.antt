use Rattle.std.proofs.Common.{rules, arith, ◌∙◌, ◌≡◌, ◌<◌, [], ap, length, map}
use Rattle.std.proofs.lemmas.List.{map_push}
use Rattle.xa_lock.specs.declared.pass.LockPass.{LockPass}
use Rattle.xa_lock.specs.Known.{known}
use Rattle.xa_lock.specs.Pages.{first_of, page_of, mine}
use Rattle.xa_lock.specs.Views.{idle, rest_of}
use Rattle.xa_lock.proofs.Lists.{only_page, dealt_out, last_dealt, length-rest_of, All_push}
use Rattle.xa_lock.proofs.Steps.{splits_keep, idle_is}
use Rattle.xa_lock.proofs.guarded.Guarded.deal.Goals as goal

pub split_seat-one-requires : goal.split_seat-one-requires
split_seat-one-requires g c = (search rules, search rules, splits_keep g.T.Chronicle.entries g.T.Chronicle.maker _ _ _ c.loop.invariant.free (omega arith))

pub loop-preserved : goal.loop-preserved
loop-preserved g c =
    let i = c.loop.invariant in let s = c.split_seat-one.ensures in let p = c.push_reserved.ensures in let pass = c.of.ensures in
    let pages = c.loop.seat.me.0.pages in let some : 0 < length pages = omega (arith, i.left, c.loop-test.true) in
    let rest = s.2 ∙ ap (λ l. (idle (rest_of pages), l)) (ap (λ m. m.1) i.free) in let left = ap (λ m. m.0.pages) rest in record {
      table = s.0 ∙ i.table;
      free = idle_is _ _ rest;
      left = let long = ap length left in let fewer = length-rest_of pages some in omega (arith, long, fewer, i.left);
      pages = dealt_out _ _ pages _ _ (known c.of.result) (ap (map known) p.items ∙ map_push known _ _) (ap page_of pass.views ∙ ap (λ m. mine m.0) s.4) left some i.pages;
      dealt = omega (arith, p.len, i.dealt);
      room = omega (arith, p.capacity, i.room);
      tables = All_push (λ (z : LockPass g.row.T-Entry.Denot). z.badge.table_id ≡ c.args.self.now.table.shared.table_id) _ _ _ p.items i.tables (pass.table ∙ (s.3 ∙ i.table));
    }

pub of-requires-2 : goal.of-requires-2
of-requires-2 g c = let pages = c.loop.seat.me.0.pages in let one : length pages ≡ 1 = omega arith in (first_of pages, c.loop.invariant.free ∙ ap (λ ps. (idle ps, [])) (only_page pages one))

pub returns : goal.returns
returns g c =
    let i = c.loop.invariant in let p = c.push_reserved-2.ensures in let pages = c.loop.seat.me.0.pages in let one : length pages ≡ 1 = omega arith in record {
      lock = All_push (λ (z : LockPass g.row.T-Entry.Denot). z.badge.table_id ≡ c.args.self.now.table.shared.table_id) _ _ _ p.items i.tables (c.of-2.ensures.table ∙ i.table);
      known = last_dealt _ _ pages _ (known c.of-2.result) (ap (map known) p.items ∙ map_push known _ _) (ap page_of c.of-2.ensures.views) one i.pages;
    }
