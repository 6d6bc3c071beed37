use Rattle.std.proofs.Common.{◌≡◌, ◌+◌, ◌≤◌, ◌++◌, [], map, drop, length, vec_len, vec_capacity}
use Rattle.std.specs.List.{All}
use Rattle.xa_cell.specs.Known.{known, IsNew}
use Rattle.xa_cell.specs.Dealing.{cells_in, left_over}
use Rattle.xa_cell.proofs.cells.Cells.deal.Given as goal

-- the callers so far have their cells, and the first seat has the others
abbrev pub invariant-loop-i : goal.invariant-loop-i
invariant-loop-i g l = record {
  table : l.whole.table_id ≡ l.self.table.shared.table_id;
  me : l.whole.me ≡ (left_over l.i l.first (drop l.i l.limits), []);
  first : l.first + cells_in (drop l.i l.limits) ≡ l.whole.table_id.words;
  last : l.last + 1 ≡ length l.limits;
  dealt : vec_len l.seats ≡ l.i;
  room : length l.limits ≤ vec_capacity l.seats;
  counts : map (λ s. s.count) l.seats.items ++ drop l.i l.limits ≡ l.limits;
  tables : All (λ s. s.inner.table_id ≡ l.self.table.shared.table_id) l.seats.items;
  news : All (λ s. IsNew s.first s.count (known s)) l.seats.items;
}
