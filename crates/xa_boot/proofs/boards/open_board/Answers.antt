use Rattle.std.proofs.Common.{◌≡◌, ◌∙◌, sym, ap, subst, arith}
use Rattle.std.specs.List.{All}
use Rattle.xa_client_worker.specs.xa_lock.Pages.{first_page}
use Rattle.xa_client_worker.specs.xa_held.declared.kept_board.BoardNote.{BoardNote}
use Rattle.xa_client_worker.specs.xa_held.Board.{maker_of}
use Rattle.xa_boot.specs.Opening.{opening}
use Rattle.xa_boot.specs.Supplies.{IsBoardFor}
use Rattle.xa_boot.proofs.Opened.{opening_makers, last_is, versions, is_boot}
use Rattle.xa_boot.proofs.Numbered.{numbered-here}
use Rattle.xa_boot.proofs.boards.open_board.Goals as goal

pub new-requires-2-clause-first : goal.new-requires-2-clause-first
new-requires-2-clause-first c =
    subst (All (λ (n : BoardNote). maker_of n ≡ 0)) (sym c.in_ok-advertise_all.ensures.notes) (opening_makers c.args.setup.now c.advertise_all.new.self.own)

pub returns : goal.returns
returns c =
    let setup = c.args.setup.now in
    let o = c.advertise_all.new.self in
    let is = c.in_ok-advertise_all.ensures in
    let passes = c.in_ok-lock.passes in
    let count = c.in_ok-lock.ensures.count in
    record {
      boot = is_boot setup o is c.version-version.ensures.sound;
      booted = last_is _ _ o.board.last c.stamp-booted.result (versions setup o is) is.last c.stamp-booted.ensures.none c.stamp-booted.ensures.some;
      version = c.version-version.ensures.value ∙ versions setup o is;
      all = count.1 ∙ c.from.ensures;
      count = count.0 ∙ c.from.ensures;
      readers = c.in_ok-readers.ensures;
      passes = numbered-here (IsBoardFor c.in_ok-lock.lock (opening setup o.own)) passes.items (λ k d within. record {
        lock_is = c.in_ok-lock.ensures.lock k d within;
        page = c.in_ok-lock.ensures.known k d (omega (arith, within, count.0)) ∙ ap (first_page k) is.notes;
      });
    }
