use Rattle.std.proofs.Common.{◌+◌, ◌≤◌, length, not, arith, ◌∙◌, sym}
use Rattle.xa_types.specs.Rows.{is_row_of}
use Rattle.xa_events.specs.declared.event.Withdrawn.{Withdrawn}
use Rattle.xa_board.specs.Changes.{without}
use Rattle.xa_board.specs.Kept.{standing_of}
use Rattle.xa_board.proofs.Noted.{withdrawn-noted}
use Rattle.xa_board.proofs.Withdrawn.{filter-le-length}
use Rattle.xa_board.proofs.board.Board.withdraw.Goals as goal

pub invariant_of-self-2 : goal.invariant_of-self-2
invariant_of-self-2 c =
    let old = standing_of c.self.inside in
    let w : Withdrawn = record { by = c.args.by; op = c.args.op; service = c.args.service.now; queue = c.args.queue; version = c.version-version.result + 1 } in
    let few : length (without c.args.service.now c.args.queue.0 old.rows) ≤ 256 = omega (arith, filter-le-length (λ r. not (is_row_of c.args.service.now c.args.queue.0 r)) old.rows, c.self.invariant.board.few) in
    record {
      board = rw (c.note.ensures.first, c.reserve.ensures.first, c.in_ok-stamp.ensures.entries, c.reserve.ensures.entries, c.take_out.ensures) (withdrawn-noted old c.in_ok-stamp.stamp w c.self.invariant.board few);
      first = c.self.invariant.first ∙ sym (c.note.ensures.first ∙ c.reserve.ensures.first);
    }

pub returns-clause-board : goal.returns-clause-board
returns-clause-board c =
    let old = standing_of c.self.inside in
    let w : Withdrawn = record { by = c.args.by; op = c.args.op; service = c.args.service.now; queue = c.args.queue; version = c.version-version.result + 1 } in
    let few : length (without c.args.service.now c.args.queue.0 old.rows) ≤ 256 = omega (arith, filter-le-length (λ r. not (is_row_of c.args.service.now c.args.queue.0 r)) old.rows, c.self.invariant.board.few) in
    rw (c.note.ensures.first, c.reserve.ensures.first, c.in_ok-stamp.ensures.entries, c.reserve.ensures.entries, c.take_out.ensures) (withdrawn-noted old c.in_ok-stamp.stamp w c.self.invariant.board few)
