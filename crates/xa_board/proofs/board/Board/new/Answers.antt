use Rattle.std.proofs.Common.{sym}
use Rattle.xa_board.proofs.Noted.{new-noted}
use Rattle.xa_board.proofs.board.Board.new.Goals as goal

pub invariant_of-result : goal.invariant_of-result
invariant_of-result c = record {
  board = rw (c.new-2.ensures.first, c.new-2.ensures.entries, c.in_ok-rows.ensures) (new-noted c.args.first);
  first = sym c.new-2.ensures.first;
}
