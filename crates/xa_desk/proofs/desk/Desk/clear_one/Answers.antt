use Rattle.std.proofs.Common.{◌≡◌, true, false, Ok, refl, sym, ◌∙◌, ap, subst}
use Rattle.xa_server.specs.xa_types.declared.stamp.Stamp.{Stamp}
use Rattle.xa_server.specs.xa_types.declared.ids.CallerId.{CallerId}
use Rattle.xa_server.specs.xa_stamp.declared.told.Noted.{Noted}
use Rattle.xa_server.specs.xa_held.declared.kept_board.BoardNote.TheVariants.{Looked}
use Rattle.xa_server.specs.xa_held.declared.kept_board.Look.{Look}
use Rattle.xa_server.specs.xa_held.Board.{Turns}
use Rattle.xa_server.specs.xa_held.BoardSteps.{ClearedAs}
use Rattle.xa_server.specs.xa_worker.Work.{seeing}
use Rattle.xa_server.specs.xa_worker.declared.work.Halt.{Halt}
use Rattle.xa_server.specs.xa_caller.Serving.{noted_off}
use Rattle.xa_desk.specs.declared.desk.Desk.{Desk}
use Rattle.xa_desk.specs.Serving.{IsHaltNear, seen_by}
use Rattle.xa_desk.proofs.BoardEntering.{may_leave_board, board_visited, none_there, one_there, clear_adds}
use Rattle.xa_desk.proofs.Cleared.{withdrew_clears, looked_goes, refused_goes, refused_halts}
use Rattle.xa_desk.proofs.desk.Desk.clear_one.Goals as goal

never : {P : Type 0} → true ≡ false → P
never so = absurd (cc so)

pub leave_board-last-requires-clause-at : goal.leave_board-last-requires-clause-at
leave_board-last-requires-clause-at g c =
    let at = c.enter_board-board.ensures.at c.args.self.now c.requires.desk refl in
    may_leave_board at c.value.ensures.value (clear_adds c.args.self.now c.stamp-seen.result c.id-maker.result c.id-maker.ensures.value c.args.queue c.clear-answer.result c.clear-answer.ensures)

pub returns-in-Ok-Withdrew : goal.returns-in-Ok-Withdrew
returns-in-Ok-Withdrew g c =
    let new : Desk = record c.args.self.now { caller = c.noted_for_domain.new.self; board = c.leave_board-last.new.pass } in
    let at = c.enter_board-board.ensures.at c.args.self.now c.requires.desk refl in
    let did = subst (ClearedAs (Turns c.value.result.now c.clear-answer.new.self) c.stamp-seen.result c.id-maker.result c.args.queue) (c.in-Ok-Withdrew.is ∙ ap Ok c.in-Ok-Withdrew.field-0-is) c.clear-answer.ensures in
    let v = board_visited at c.value.ensures.value c.leave_board-last.ensures.left new refl refl refl (one_there c.args.self.now c.id-maker.result _ c.id-maker.ensures.value refl) did in
    let caller = c.noted_for_domain.ensures.noted ∙ ap (λ (n : Noted). noted_off n.stamp n.event.value c.args.self.now.caller) c.in-Ok-Withdrew.noted-is in
    let clears = withdrew_clears v.step c.stamp-seen.result c.stamp-seen.ensures.value c.id-maker.result c.args.queue c.requires.deserted c.in-Ok-Withdrew.noted v.came caller refl in
    record { leads = clears.0; deserted = clears.1; noted = clears.2; clear = never; latest = λ withdrew. clears.3; same = (refl, refl); halted = tt }

pub returns-in-Ok-Clear : goal.returns-in-Ok-Clear
returns-in-Ok-Clear g c =
    let new : Desk = record c.args.self.now { caller = c.saw.new.self; board = c.leave_board-last.new.pass } in
    let at = c.enter_board-board.ensures.at c.args.self.now c.requires.desk refl in
    let did = subst (ClearedAs (Turns c.value.result.now c.clear-answer.new.self) c.stamp-seen.result c.id-maker.result c.args.queue) (c.in-Ok-Clear.is ∙ ap Ok c.in-Ok-Clear.field-0-is) c.clear-answer.ensures in
    let v = board_visited at c.value.ensures.value c.leave_board-last.ensures.left new refl refl refl (one_there c.args.self.now c.id-maker.result (Looked c.in-Ok-Clear.look) c.id-maker.ensures.value (ap (λ (m : CallerId). m.0) did.how.0.its)) did in
    let look = c.in-Ok-Clear.look in
    let caller = c.saw.ensures ∙ ap (λ (l : Look). record c.args.self.now.caller { work = seeing l.stamp c.args.self.now.caller.work }) c.in-Ok-Clear.look-is in
    let goes = looked_goes v.step c.stamp-seen.result c.stamp-seen.ensures.value c.id-maker.result c.args.queue c.requires.deserted look v.came caller c.requires.latest refl in
    record { leads = goes.0; deserted = goes.1; noted = goes.2; clear = λ clear. goes.3; latest = λ withdrew. never (sym withdrew); same = (refl, refl); halted = tt }

pub returns-in-Err : goal.returns-in-Err
returns-in-Err g c =
    let last = c.leave_board-last.result in
    let new : Desk = record c.args.self.now { caller = c.saw-in-Err.new.self; board = c.leave_board-last.new.pass } in
    let at = c.enter_board-board.ensures.at c.args.self.now c.requires.desk refl in
    let did = subst (ClearedAs (Turns c.value.result.now c.clear-answer.new.self) c.stamp-seen.result c.id-maker.result c.args.queue) c.in-Err.is c.clear-answer.ensures in
    let v = board_visited at c.value.ensures.value c.leave_board-last.ensures.left new refl refl refl (none_there c.args.self.now) did in
    let seen = c.seen_by.ensures ∙ ap (λ (h : Halt). seen_by h last) c.halt_by-halt.ensures in
    let caller = c.saw-in-Err.ensures ∙ ap (λ (s : Stamp). record c.args.self.now.caller { work = seeing s c.args.self.now.caller.work }) seen in
    let goes = refused_goes v.step c.stamp-seen.result c.stamp-seen.ensures.value c.id-maker.result c.args.queue c.requires.deserted c.in-Err.refused last c.stamp-seen.ensures.bound v.came caller v.reaches refl in
    let halts = refused_halts v.step c.stamp-seen.result c.stamp-seen.ensures.value c.id-maker.result c.args.queue c.requires.deserted c.in-Err.refused last c.stamp-seen.ensures.bound v.came caller in
    record { leads = goes.0; deserted = goes.1; noted = goes.2; clear = tt; latest = tt; same = (refl, refl); halted = subst (IsHaltNear new) (sym c.halt_by-halt.ensures) halts }
