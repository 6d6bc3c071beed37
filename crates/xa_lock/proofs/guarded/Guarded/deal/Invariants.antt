use Rattle.std.proofs.Common.{◌≡◌, ◌≤◌, ◌+◌, ◌++◌, [], map, length, vec_len, vec_capacity}
use Rattle.std.specs.List.{All}
use Rattle.xa_lock.specs.Known.{known}
use Rattle.xa_lock.specs.Views.{idle}
use Rattle.xa_lock.proofs.guarded.Guarded.deal.Given as goal

-- the passes so far have the first pages, and the seat has the others
abbrev pub invariant-loop : goal.invariant-loop
invariant-loop g l = record {
  table : l.seat.table_id ≡ l.self.table.shared.table_id;
  free : l.seat.me ≡ (idle l.seat.me.0.pages, []);
  left : length l.seat.me.0.pages + l.counter ≡ l.passes + 1;
  pages : map known l.all.items ++ l.seat.me.0.pages ≡ l.fn.seat.me.0.pages;
  dealt : vec_len l.all + 1 ≡ l.counter;
  room : l.passes ≤ vec_capacity l.all;
  tables : All (λ p. p.badge.table_id ≡ l.self.table.shared.table_id) l.all.items;
}
