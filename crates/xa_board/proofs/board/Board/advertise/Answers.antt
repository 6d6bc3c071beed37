use Rattle.std.proofs.Common.{◌≡◌, ◌+◌, ◌≤◌, [], ◌∷◌, ◌++◌, length, length-append, arith, ◌∙◌, sym, refl, None}
use Rattle.xa_types.specs.Rows.{row_of}
use Rattle.xa_events.specs.declared.event.Advertised.{Advertised}
use Rattle.xa_board.specs.Changes.{without, bars_put}
use Rattle.xa_board.specs.Kept.{standing_of}
use Rattle.xa_board.proofs.Noted.{advertised-noted}
use Rattle.xa_board.proofs.Room.{room-to_put}
use Rattle.xa_board.proofs.board.Board.advertise.Goals as goal

pub put-requires : goal.put-requires
put-requires c =
    let rows = c.self.inside.rows in
    let free : bars_put c.args.row rows (row_of c.args.row.service c.args.row.queue.0 rows) ≡ None = rw (← c.as_slice.ensures) (sym c.put_refused.ensures ∙ c.in_default.is) in
    room-to_put c.args.row rows c.self.invariant.board.few free

pub invariant_of-self-2 : goal.invariant_of-self-2
invariant_of-self-2 c =
    let old = standing_of c.self.inside in
    let row = c.args.row in
    let a : Advertised = record { by = c.args.by; op = c.args.op; service = row.service; queue = row.queue; routine = row.routine; version = c.version-version.result + 1 } in
    let free : bars_put c.args.row c.self.inside.rows (row_of c.args.row.service c.args.row.queue.0 c.self.inside.rows) ≡ None = rw (← c.as_slice.ensures) (sym c.put_refused.ensures ∙ c.in_default.is) in
    let few : length (without row.service row.queue.0 old.rows ++ row ∷ []) ≤ 256 = omega (arith, length-append (without row.service row.queue.0 old.rows) (row ∷ []), room-to_put row old.rows c.self.invariant.board.few free) in
    record {
      board = rw (c.note.ensures.first, c.reserve.ensures.first, c.in_ok-stamp.ensures.entries, c.reserve.ensures.entries, c.put.ensures) (advertised-noted old c.in_ok-stamp.stamp a row refl refl refl c.self.invariant.board few);
      first = c.self.invariant.first ∙ sym (c.note.ensures.first ∙ c.reserve.ensures.first);
    }

pub returns-clause-board : goal.returns-clause-board
returns-clause-board c =
    let old = standing_of c.self.inside in
    let row = c.args.row in
    let a : Advertised = record { by = c.args.by; op = c.args.op; service = row.service; queue = row.queue; routine = row.routine; version = c.version-version.result + 1 } in
    let free : bars_put c.args.row c.self.inside.rows (row_of c.args.row.service c.args.row.queue.0 c.self.inside.rows) ≡ None = rw (← c.as_slice.ensures) (sym c.put_refused.ensures ∙ c.in_default.is) in
    let few : length (without row.service row.queue.0 old.rows ++ row ∷ []) ≤ 256 = omega (arith, length-append (without row.service row.queue.0 old.rows) (row ∷ []), room-to_put row old.rows c.self.invariant.board.few free) in
    rw (c.note.ensures.first, c.reserve.ensures.first, c.in_ok-stamp.ensures.entries, c.reserve.ensures.entries, c.put.ensures) (advertised-noted old c.in_ok-stamp.stamp a row refl refl refl c.self.invariant.board few)
