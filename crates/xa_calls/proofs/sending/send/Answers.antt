use Rattle.std.proofs.Common.{rules, ◌≡◌, Ok, Err, sym, ◌∙◌, subst}
use Rattle.xa_desk.specs.Steps.{ask_by}
use Rattle.xa_calls.specs.declared.sending.Tried.{Tried}
use Rattle.xa_calls.specs.Telling.{TriedNotes, SentNotes, Closes, AcceptsAs}
use Rattle.xa_calls.proofs.Going.{performs_trans, full_on}
use Rattle.xa_calls.proofs.Noting.{quiet_one}
use Rattle.xa_calls.proofs.sending.send.Goals as goal

pub returns-in_err-try_to_send-2-clause-goes : goal.returns-in_err-try_to_send-2-clause-goes
returns-in_err-try_to_send-2-clause-goes g c = performs_trans c.args.monitor.now.domain.now c.args.op (ask_by c.args.apart c.args.ask.now) c.args.desk.now c.loop.desk c.try_to_send-in-loop.new.desk c.loop.invariant.goes c.try_to_send-in-loop.ensures.goes

pub returns-in-Sent-2-clause-goes : goal.returns-in-Sent-2-clause-goes
returns-in-Sent-2-clause-goes g c = performs_trans c.args.monitor.now.domain.now c.args.op (ask_by c.args.apart c.args.ask.now) c.args.desk.now c.loop.desk c.try_to_send-in-loop.new.desk c.loop.invariant.goes c.try_to_send-in-loop.ensures.goes

pub returns-in-Refused-2-clause-goes : goal.returns-in-Refused-2-clause-goes
returns-in-Refused-2-clause-goes g c = performs_trans c.args.monitor.now.domain.now c.args.op (ask_by c.args.apart c.args.ask.now) c.args.desk.now c.loop.desk c.try_to_send-in-loop.new.desk c.loop.invariant.goes c.try_to_send-in-loop.ensures.goes

pub returns-then-is_some-clause-goes : goal.returns-then-is_some-clause-goes
returns-then-is_some-clause-goes g c = performs_trans c.args.monitor.now.domain.now c.args.op (ask_by c.args.apart c.args.ask.now) c.args.desk.now c.loop.desk c.try_to_send-in-loop.new.desk c.loop.invariant.goes c.try_to_send-in-loop.ensures.goes

pub returns-in_err-try_to_send-2-clause-notes : goal.returns-in_err-try_to_send-2-clause-notes
returns-in_err-try_to_send-2-clause-notes g c =
    let same : c.from_residual-in_err-try_to_send-2.result ≡ Err c.in_err-try_to_send-2.field-0.0 = search rules in
    let notes = c.in_err-try_to_send-2.ensures.notes in
    subst (λ r. SentNotes c.args.op r c.args.desk.now c.try_to_send-in-loop.new.desk) (sym same) (notes.0 ∙ c.loop.invariant.quiet, notes.1)

pub returns-in-Sent-2-clause-notes : goal.returns-in-Sent-2-clause-notes
returns-in-Sent-2-clause-notes g c =
    quiet_one c.args.op (AcceptsAs c.try_to_send-in-loop.new.desk.caller.sent) c.args.desk.now c.loop.desk c.try_to_send-in-loop.new.desk c.loop.invariant.goes.same c.loop.invariant.quiet
    (subst (λ (t : Tried). TriedNotes c.args.op (Ok t) c.loop.desk c.try_to_send-in-loop.new.desk) c.in-Sent-2.is c.in_ok-try_to_send-2.ensures.notes)

pub returns-in-Refused-2-clause-notes : goal.returns-in-Refused-2-clause-notes
returns-in-Refused-2-clause-notes g c =
    quiet_one c.args.op Closes c.args.desk.now c.loop.desk c.try_to_send-in-loop.new.desk c.loop.invariant.goes.same c.loop.invariant.quiet
    (subst (λ (t : Tried). TriedNotes c.args.op (Ok t) c.loop.desk c.try_to_send-in-loop.new.desk) c.in-Refused-2.is c.in_ok-try_to_send-2.ensures.notes)

pub returns-then-is_some-clause-notes : goal.returns-then-is_some-clause-notes
returns-then-is_some-clause-notes g c =
    let ready = full_on c.args.monitor.now.domain.now c.args.apart c.args.ask.now c.args.op c.args.desk.now.caller.op c.try_to_send-in-loop.new.desk c.in_ok-try_to_send-2.field-0 c.requires.turn c.in-Full-2.is c.in_ok-try_to_send-2.ensures.tried in
    (subst (λ (t : Tried). TriedNotes c.args.op (Ok t) c.loop.desk c.try_to_send-in-loop.new.desk) c.in-Full-2.is c.in_ok-try_to_send-2.ensures.notes ∙ c.loop.invariant.quiet, ready.idle)

pub loop-preserved : goal.loop-preserved
loop-preserved g c = record {
  goes = performs_trans c.args.monitor.now.domain.now c.args.op (ask_by c.args.apart c.args.ask.now) c.args.desk.now c.loop.desk c.try_to_send-in-loop.new.desk c.loop.invariant.goes c.try_to_send-in-loop.ensures.goes;
  ready = full_on c.args.monitor.now.domain.now c.args.apart c.args.ask.now c.args.op c.args.desk.now.caller.op c.try_to_send-in-loop.new.desk c.in_ok-try_to_send-2.field-0 c.requires.turn c.in-Full-2.is c.in_ok-try_to_send-2.ensures.tried;
  active = c.try_to_send-in-loop.ensures.active;
  quiet = subst (λ (t : Tried). TriedNotes c.args.op (Ok t) c.loop.desk c.try_to_send-in-loop.new.desk) c.in-Full-2.is c.in_ok-try_to_send-2.ensures.notes ∙ c.loop.invariant.quiet;
}
