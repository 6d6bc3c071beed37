use Rattle.std.proofs.Common.{rules, ◌∙◌, ◌++◌, Some, ap, sym, map, ◌≡◌}
use Rattle.std.proofs.lemmas.List.{map_push}
use Rattle.xa_lock.specs.declared.pass.LockPass.{LockPass}
use Rattle.std.proofs.lemmas.List.Elements.{All-pop}
use Rattle.xa_lock.specs.Known.{known}
use Rattle.xa_lock.specs.Views.{before}
use Rattle.xa_lock.proofs.Lists.{gathered}
use Rattle.xa_lock.proofs.Steps.{joins_keep, idle_is}
use Rattle.xa_lock.proofs.guarded.Guarded.gather.Goals as goal

pub loop-pass-init : goal.loop-pass-init
loop-pass-init g c = let q = c.into_seat-seat.ensures in let items = c.in-Some.ensures.items in
    let tables = All-pop (λ (p : LockPass g.row.T-Entry.Denot). p.badge.table_id ≡ c.args.self.now.table.shared.table_id) _ _ (Some c.in-Some.last) items c.requires.lock in (
      q.table ∙ tables.1,
      idle_is _ _ q.me,
      ap (λ l. map known c.pop.new.self.items ++ l) (ap (λ m. m.0.pages) q.me) ∙ sym (ap (map known) items ∙ map_push known _ _),
      tables.0,
    )

pub join_seat-requires : goal.join_seat-requires
join_seat-requires g c = let q = c.into_seat.ensures in let inv = c.loop-pass.invariant in
    let tables = All-pop (λ (p : LockPass g.row.T-Entry.Denot). p.badge.table_id ≡ c.args.self.now.table.shared.table_id) _ _ (Some c.in-Some-pop.pass) c.in-Some-pop.ensures.items inv.3 in (
      inv.0,
      q.table ∙ tables.1,
      ap (λ m. m.1) q.me,
      search rules,
      joins_keep g.T.Chronicle.entries g.T.Chronicle.maker _ _ _ _ _ inv.1 (idle_is _ _ q.me),
    )

pub loop-pass-preserved : goal.loop-pass-preserved
loop-pass-preserved g c = let q = c.into_seat.ensures in let j = c.join_seat.ensures in let inv = c.loop-pass.invariant in let items = c.in-Some-pop.ensures.items in
    let old = c.loop-pass.seat.me in let other = c.into_seat.result.me in (
      j.0 ∙ inv.0,
      idle_is _ _ (j.2 ∙ ap (λ l. (before old.0 other.0, l)) (ap (λ m. m.1) inv.1)),
      gathered _ _ old.0.pages _ _ (known c.in-Some-pop.pass) (ap (map known) items ∙ map_push known _ _) inv.2 (ap (λ m. m.0.pages) j.2 ∙ ap (λ m. m.0.pages ++ old.0.pages) q.me),
      (All-pop (λ (p : LockPass g.row.T-Entry.Denot). p.badge.table_id ≡ c.args.self.now.table.shared.table_id) _ _ (Some c.in-Some-pop.pass) items inv.3).0,
    )
