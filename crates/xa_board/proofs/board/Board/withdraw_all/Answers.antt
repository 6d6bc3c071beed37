use Rattle.std.proofs.Common.{◌∙◌, sym}
use Rattle.xa_board.specs.Kept.{standing_of}
use Rattle.xa_board.proofs.Withdrawn.{cleared-noted}
use Rattle.xa_board.proofs.board.Board.withdraw_all.Goals as goal

pub invariant_of-self-2 : goal.invariant_of-self-2
invariant_of-self-2 c =
    record {
      board = rw (c.note_withdrawals-stamp.ensures.first, c.reserve.ensures.first, c.note_withdrawals-stamp.ensures.entries, c.reserve.ensures.entries, c.as_slice-2.ensures, c.take_out_all.ensures) (cleared-noted c.args.queue.0 _ _ (standing_of c.self.inside) c.self.invariant.board);
      first = c.self.invariant.first ∙ sym (c.note_withdrawals-stamp.ensures.first ∙ c.reserve.ensures.first);
    }

pub returns-clause-board : goal.returns-clause-board
returns-clause-board c =
    rw (c.note_withdrawals-stamp.ensures.first, c.reserve.ensures.first, c.note_withdrawals-stamp.ensures.entries, c.reserve.ensures.entries, c.as_slice-2.ensures, c.take_out_all.ensures) (cleared-noted c.args.queue.0 _ _ (standing_of c.self.inside) c.self.invariant.board)
