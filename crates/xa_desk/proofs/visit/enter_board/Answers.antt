use Rattle.std.proofs.Common.{sym, ◌∙◌, subst}
use Rattle.xa_board.specs.Board.{ReadsAsNoted}
use Rattle.xa_server.specs.xa_held.Board.{Held as Board, IsSoundBoard}
use Rattle.xa_desk.proofs.visit.enter_board.Goals as goal

pub returns-clause-at : goal.returns-clause-at
returns-clause-at g c old is same = record {
  is = is;
  pass = c.take_out.result;
  has = sym same ∙ c.take_out.ensures.was;
  taken = c.take_out.ensures.now;
  sees = c.enter-board.ensures.found;
  knows = c.enter-board.ensures.knows;
  sound = subst (λ (b : Board). IsSoundBoard b) c.get.ensures c.version-version.ensures.sound;
  reads = subst (λ (b : Board). ReadsAsNoted b.board) c.get.ensures c.version-version.ensures.reads;
}
