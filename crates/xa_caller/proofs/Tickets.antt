-- The ticket of what is put on a queue names its request.
use Rattle.std.proofs.Common.{◌≡◌, ◌+◌, Bool, ℤ, Option, sym, ap, subst}
use Rattle.xa_types.specs.declared.ids.RequestId.{RequestId}
use Rattle.xa_types.specs.declared.row.Row.{Row}
use Rattle.xa_types.specs.declared.data.Data.{Data}
use Rattle.xa_cell.specs.declared.cells.Cells.{Cells}
use Rattle.xa_cell.specs.declared.tokens.Place.{Place}
use Rattle.xa_cell.specs.declared.tokens.Seat.{Seat}
use Rattle.xa_cell.specs.Views.{opening, at}
use Rattle.xa_cell.specs.Known.{known}
use Rattle.xa_cell.specs.Calls.{Began}
use Rattle.xa_queue.specs.declared.entry.Entry.{Entry}
use Rattle.xa_frame.specs.Spelling.{IsData}
use Rattle.xa_held.specs.Kept.{IsRight}
use Rattle.xa_caller.specs.declared.cargo.Filling.{Filling}
use Rattle.xa_caller.specs.Drafts.{Cargo, entry_by}
use Rattle.xa_caller.specs.Unsent.{aimed_at}

-- a ticket that began with the request of the entry
pub right_begun : (cells : Cells Filling) (request : RequestId) (row : Row) (asked : Option (Bool × ℤ)) (payload : Data) (s s' : Seat Filling) (place : Place) (entry : Entry Cargo) → entry ≡ entry_by request row asked payload entry.cargo.ticket
    → Began cells request s s' place entry.cargo.ticket → IsData payload → IsRight cells entry
right_begun cells request row asked payload s s' place entry is began is_data =
    record { table = began.table; opening = opening ((at place.cell (known s)).count + 1) request; names = began.names; request = sym (ap (λ (e : Entry Cargo). e.request) is); spelled = subst (λ (e : Entry Cargo). IsData e.cargo.invocation.payload) (sym is) is_data }

-- another row leaves it so
pub right_aimed : (cells : Cells Filling) (entry : Entry Cargo) (row : Row) (asked : Option (Bool × ℤ)) → IsRight cells entry → IsRight cells (aimed_at entry row asked)
right_aimed cells entry row asked right = record { table = right.table; opening = right.opening; names = right.names; request = right.request; spelled = right.spelled }
