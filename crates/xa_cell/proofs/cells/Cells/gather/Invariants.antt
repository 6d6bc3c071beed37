use Rattle.std.proofs.Common.{◌≡◌, ◌++◌, List, [], vec_len}
use Rattle.std.specs.List.{All}
use Rattle.xa_cell.specs.declared.tokens.Seat.{Seat}
use Rattle.xa_cell.specs.Gathered.{Gathers}
use Rattle.xa_cell.proofs.cells.Cells.gather.Given as goal

-- the seats that are gone are in this one
abbrev pub invariant-loop-next : goal.invariant-loop-next
invariant-loop-next g l = record {
  table : l.all.table_id ≡ l.self.table.shared.table_id;
  empty : l.all.me.1 ≡ [];
  gone : (gone : List (Seat g.row.A.Denot)) × (l.seats.items ++ gone ≡ l.fn.seats.items) × Gathers gone l.all.me.0;
  tables : All (λ s. s.inner.table_id ≡ l.self.table.shared.table_id) l.seats.items;
}

abbrev pub decreases-loop-next : goal.decreases-loop-next
decreases-loop-next g l = vec_len l.seats
