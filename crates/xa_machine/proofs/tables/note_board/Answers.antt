use Rattle.std.proofs.Common.{ap, sym, ◌∙◌}
use Rattle.xa_machine.specs.Shown.{result_change}
use Rattle.xa_machine.proofs.Noting.{board_put, board_same}
use Rattle.xa_machine.proofs.tables.note_board.Goals as goal

pub returns-in-Some : goal.returns-in-Some
returns-in-Some c = λ past was. rw c.push_reserved.ensures.items (board_put c.args.board.now.items c.in-Some.change c.args.event.now past was c.in-Some.ensures)

pub returns-in_default : goal.returns-in_default
returns-in_default c = λ past was. board_same c.args.board.now.items c.args.event.now past was (sym (ap result_change c.in_default.is) ∙ c.change_in.ensures)
