use Rattle.std.proofs.Common.{Some, inl, inr, refl, sym, ◌∙◌, ap, subst, arith}
use Rattle.std.specs.Prelude.{nat_lt}
use Rattle.std.proofs.lemmas.Bool.{and_parts, ltb-true}
use Rattle.xa_server.specs.xa_types.declared.call.Op.TheVariants.{Unadvertise}
use Rattle.xa_server.specs.xa_types.declared.ids.CallerId.{CallerId}
use Rattle.xa_server.specs.xa_types.declared.stamp.Stamp.{Stamp}
use Rattle.xa_server.specs.xa_events.declared.event.Event.{Event}
use Rattle.xa_server.specs.xa_events.declared.event.Event.TheVariants.{Withdraw}
use Rattle.xa_server.specs.xa_events.Caller.{op_in, is_call_of}
use Rattle.xa_server.specs.xa_events.Calls.{awaits_answer}
use Rattle.xa_server.specs.xa_held.Board.{Held, Turns, raised}
use Rattle.xa_server.specs.xa_held.BoardSteps.{WithdrewAs}
use Rattle.xa_server.specs.xa_worker.Calls.{FitsOwn}
use Rattle.xa_server.specs.xa_worker.Work.{seeing}
use Rattle.xa_server.proofs.xa_held.Changed.{taken_met}
use Rattle.xa_server.specs.xa_caller.Changes.{changed_by}
use Rattle.xa_server.specs.xa_caller.Phases.{just_in}
use Rattle.xa_board.specs.Changes.{withdraw_refused}
use Rattle.xa_desk.specs.declared.desk.Desk.{Desk}
use Rattle.xa_desk.specs.Whole.{entries_of}
use Rattle.xa_desk.specs.Advertising.{BarsWithdrawal, rows_seen}
use Rattle.xa_desk.proofs.Boarding.{board_front, board_grew}
use Rattle.xa_desk.proofs.BoardEntering.{may_leave_board, board_visited, none_there, one_there, withdraw_adds}
use Rattle.xa_server.proofs.xa_caller.Reading.{is_numbered}
use Rattle.xa_desk.proofs.Fitting.{its_events}
use Rattle.xa_desk.proofs.Advertising.{recent, change_leads, change_fits, withdraw_ends, withdrawal_barred, barred_leads, rows_stood}
use Rattle.xa_desk.proofs.desk.Desk.take_row.Goals as goal

pub leave_board-last-requires-clause-at : goal.leave_board-last-requires-clause-at
leave_board-last-requires-clause-at g c =
    let at = c.enter_board-board.ensures.at c.args.self.now c.requires.desk refl in
    may_leave_board at c.value.ensures.value (withdraw_adds c.args.self.now c.stamp-seen.result c.id-maker.result c.id-maker.ensures.value c.id-maker.result c.args.op c.args.service.now c.args.queue c.withdraw-answer.result c.withdraw-answer.ensures)

pub changed-requires-clause-recent : goal.changed-requires-clause-recent
changed-requires-clause-recent g c =
    let new : Desk = record c.args.self.now { board = c.leave_board-last.new.pass } in
    let at = c.enter_board-board.ensures.at c.args.self.now c.requires.desk refl in
    let did = subst (WithdrewAs (Turns c.value.result.now c.withdraw-answer.new.self) c.stamp-seen.result c.id-maker.result c.id-maker.result c.args.op c.args.service.now c.args.queue) c.in-Ok.is c.withdraw-answer.ensures in
    let v = board_visited at c.value.ensures.value c.leave_board-last.ensures.left new refl refl refl (one_there c.args.self.now c.id-maker.result _ c.id-maker.ensures.value refl) did in
    recent v.step c.stamp-seen.result c.stamp-seen.ensures.value c.id-maker.result c.in-Ok.changed _ _ _ v.came

pub returns-in-Ok-clause-moves : goal.returns-in-Ok-clause-moves
returns-in-Ok-clause-moves g c =
    let d = c.args.domain.now in
    let desk = c.args.self.now in
    let new : Desk = record desk { caller = c.changed.new.self; board = c.leave_board-last.new.pass } in
    let at = c.enter_board-board.ensures.at desk c.requires.desk refl in
    let did = subst (WithdrewAs (Turns c.value.result.now c.withdraw-answer.new.self) c.stamp-seen.result c.id-maker.result c.id-maker.result c.args.op c.args.service.now c.args.queue) c.in-Ok.is c.withdraw-answer.ensures in
    let v = board_visited at c.value.ensures.value c.leave_board-last.ensures.left new refl refl refl (one_there desk c.id-maker.result _ c.id-maker.ensures.value refl) did in
    let above = ltb-true desk.caller.work.clients desk.caller.work.id.0 (and_parts (nat_lt desk.caller.work.clients desk.caller.work.id.0) _ c.requires.active).0 in
    let number = ap (λ (i : CallerId). i.0) c.id-maker.ensures.value in
    record {
      leads = change_leads v.step c.stamp-seen.result c.stamp-seen.ensures.value c.id-maker.result c.in-Ok.changed _ _ _ v.came c.args.op tt refl c.changed.ensures
          (λ whole on. taken_met d.setup _ _ c.id-maker.result whole.board (board_front v.step whole on) c.stamp-seen.result c.id-maker.result c.args.op c.args.service.now c.args.queue c.in-Ok.changed v.came)
          (λ whole on. record { saw = λ zero. absurd (omega (arith, above, number, zero)); told = tt; clears = λ zero. absurd (omega (arith, above, number, zero)) });
      board = board_grew v.step v.came;
      queues = refl;
      reader = refl;
    }

pub returns-in-Ok-clause-made : goal.returns-in-Ok-clause-made
returns-in-Ok-clause-made g c =
    let desk = c.args.self.now in
    let did = subst (WithdrewAs (Turns c.value.result.now c.withdraw-answer.new.self) c.stamp-seen.result c.id-maker.result c.id-maker.result c.args.op c.args.service.now c.args.queue) c.in-Ok.is c.withdraw-answer.ensures in
    let event = did.how.1.event_is ∙ ap (λ (i : CallerId). Withdraw (record { by = i; op = c.args.op; service = c.args.service.now; queue = c.args.queue; version = c.in-Ok.changed.version })) c.id-maker.ensures.value in
    (c.in-Ok.changed.noted.stamp, c.in-Ok.changed.version, c.changed.ensures ∙ ap (λ (e : Event). changed_by c.in-Ok.changed.noted.stamp c.args.op c.in-Ok.changed.version e desk.caller) event)

pub returns-in-Ok-clause-fits : goal.returns-in-Ok-clause-fits
returns-in-Ok-clause-fits g c named =
    let d = c.args.domain.now in
    let desk = c.args.self.now in
    let new : Desk = record desk { caller = c.changed.new.self; board = c.leave_board-last.new.pass } in
    let at = c.enter_board-board.ensures.at desk c.requires.desk refl in
    let did = subst (WithdrewAs (Turns c.value.result.now c.withdraw-answer.new.self) c.stamp-seen.result c.id-maker.result c.id-maker.result c.args.op c.args.service.now c.args.queue) c.in-Ok.is c.withdraw-answer.ensures in
    let v = board_visited at c.value.ensures.value c.leave_board-last.ensures.left new refl refl refl (one_there desk c.id-maker.result _ c.id-maker.ensures.value refl) did in
    let above = ltb-true desk.caller.work.clients desk.caller.work.id.0 (and_parts (nat_lt desk.caller.work.clients desk.caller.work.id.0) _ c.requires.active).0 in
    let number = ap (λ (i : CallerId). i.0) c.id-maker.ensures.value in
    let turn = c.requires.turn in
    let event = did.how.1.event_is ∙ ap (λ (i : CallerId). Withdraw (record { by = i; op = c.args.op; service = c.args.service.now; queue = c.args.queue; version = c.in-Ok.changed.version })) c.id-maker.ensures.value in
    change_fits v.step c.stamp-seen.result c.stamp-seen.ensures.value c.id-maker.result c.in-Ok.changed _ _ _ v.came c.args.op tt refl c.changed.ensures
    (λ whole on. taken_met d.setup _ _ c.id-maker.result whole.board (board_front v.step whole on) c.stamp-seen.result c.id-maker.result c.args.op c.args.service.now c.args.queue c.in-Ok.changed v.came)
    (λ whole on. record { saw = λ zero. absurd (omega (arith, above, number, zero)); told = tt; clears = λ zero. absurd (omega (arith, above, number, zero)) })
    (Unadvertise c.args.service.now) (ap op_in event) (ap (is_call_of desk.caller.work.id.0) event ∙ is_numbered desk.caller.work.id.0 desk.caller.work.id.0 c.args.op refl (omega (arith, turn))) (λ ops. ap (λ (e : Event). awaits_answer ops (Some e)) event) (ap just_in c.requires.idle)
    (λ whole on. subst (λ (e : Event). FitsOwn d.setup d.clients (entries_of whole) c.in-Ok.changed.noted.stamp (Unadvertise c.args.service.now) e (its_events d desk)) (sym event) (named, refl))

pub returns-in-Err-clause-moves : goal.returns-in-Err-clause-moves
returns-in-Err-clause-moves g c =
    let desk = c.args.self.now in
    let last = c.leave_board-last.result in
    let new : Desk = record desk { caller = c.saw.new.self; board = c.leave_board-last.new.pass } in
    let at = c.enter_board-board.ensures.at desk c.requires.desk refl in
    let did = subst (WithdrewAs (Turns c.value.result.now c.withdraw-answer.new.self) c.stamp-seen.result c.id-maker.result c.id-maker.result c.args.op c.args.service.now c.args.queue) c.in-Err.is c.withdraw-answer.ensures in
    let v = board_visited at c.value.ensures.value c.leave_board-last.ensures.left new refl refl refl (none_there desk) did in
    let caller = c.saw.ensures ∙ ap (λ (s : Stamp). record desk.caller { work = seeing s desk.caller.work }) c.seen_at.ensures in
    record {
      leads = barred_leads v.step c.stamp-seen.result c.stamp-seen.ensures.value c.stamp-seen.ensures.bound (λ (old : Held). withdraw_refused (raised c.stamp-seen.result old) c.args.service.now c.args.queue.0 old.board) c.in-Err.refused last v.came (withdraw_ends c.args.service.now c.args.queue.0 c.stamp-seen.result c.stamp-seen.ensures.bound c.in-Err.refused) caller v.reaches;
      board = board_grew v.step v.came;
      queues = refl;
      reader = refl;
    }

pub returns-in-Err-clause-barred : goal.returns-in-Err-clause-barred
returns-in-Err-clause-barred g c =
    let d = c.args.domain.now in
    let desk = c.args.self.now in
    let last = c.leave_board-last.result in
    let new : Desk = record desk { caller = c.saw.new.self; board = c.leave_board-last.new.pass } in
    let at = c.enter_board-board.ensures.at desk c.requires.desk refl in
    let did = subst (WithdrewAs (Turns c.value.result.now c.withdraw-answer.new.self) c.stamp-seen.result c.id-maker.result c.id-maker.result c.args.op c.args.service.now c.args.queue) c.in-Err.is c.withdraw-answer.ensures in
    let v = board_visited at c.value.ensures.value c.leave_board-last.ensures.left new refl refl refl (none_there desk) did in
    let caller = c.saw.ensures ∙ ap (λ (s : Stamp). record desk.caller { work = seeing s desk.caller.work }) c.seen_at.ensures in
    let same = rows_stood v.step c.stamp-seen.result c.stamp-seen.ensures.value c.stamp-seen.ensures.bound (λ (old : Held). withdraw_refused (raised c.stamp-seen.result old) c.args.service.now c.args.queue.0 old.board) c.in-Err.refused last v.came (withdraw_ends c.args.service.now c.args.queue.0 c.stamp-seen.result c.stamp-seen.ensures.bound c.in-Err.refused) caller in
    elim v.came.how.1 [
      | inl bar ↦ withdrawal_barred c.args.service.now c.args.queue.0 v.came.old.board.rows (rows_seen d new) same _ _ c.in-Err.refused bar
      | inr memory ↦ subst (λ why. BarsWithdrawal c.args.service.now c.args.queue.0 why (rows_seen d new)) (sym memory) tt
    ]
