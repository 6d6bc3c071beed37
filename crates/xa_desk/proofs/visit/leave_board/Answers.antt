use Rattle.std.proofs.Common.{◌≡◌, ◌<◌, ap, subst, refl}
use Rattle.xa_board.specs.Board.{ReadsAsNoted, version_of}
use Rattle.xa_server.specs.xa_lock.declared.pass.Page.{Page}
use Rattle.xa_server.specs.xa_lock.Known.{value_of, known as page_of}
use Rattle.xa_server.specs.xa_held.declared.kept_board.BoardNote.{BoardNote}
use Rattle.xa_server.specs.xa_held.Board.{Held as Board, IsSoundBoard}
use Rattle.xa_server.proofs.xa_held.BoardPassing.{reaches}
use Rattle.xa_desk.proofs.BoardEntering.{board_grown, board_visits}
use Rattle.xa_desk.proofs.visit.leave_board.Goals as goal

pub leave-requires-clause-grew : goal.leave-requires-clause-grew
leave-requires-clause-grew c = let at = c.requires.at in board_grown at.3 (value_of c.args.board) at.2 at.4

pub returns : goal.returns
returns c =
    let now : Board = value_of c.args.board in
    let back = c.leave.result in
    let last = c.stamp-last.result in
    let sound = subst (λ (b : Board). IsSoundBoard b) c.get.ensures c.stamp-last.ensures.sound in
    let reads = subst (λ (b : Board). ReadsAsNoted b.board) c.get.ensures c.stamp-last.ensures.reads in
    let none = subst (λ (b : Board). version_of b.board ≡ 0 → last.0 ≡ 0) c.get.ensures c.stamp-last.ensures.none in
    let some = subst (λ (b : Board). 0 < version_of b.board → last ≡ b.last) c.get.ensures c.stamp-last.ensures.some in
    record {
      left = λ old there at. record {
        is = at.is;
        pass = at.pass;
        has = at.has;
        back = back;
        kept = refl;
        lock = c.leave.ensures.lock;
        reaches = reaches now (page_of back) last (ap (λ (z : Page BoardNote). z.seen) c.leave.ensures.known) sound reads none some;
        visits = λ more adds. board_visits at now more adds (page_of back) c.leave.ensures.known sound reads;
      };
    }
