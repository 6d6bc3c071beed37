use Rattle.std.proofs.Common.{◌≡◌, ℕ, ◌+◌, ◌<◌, Bool, Ok, sym, ◌∙◌, OnOk, subst, arith, false}
use Rattle.xa_desk.specs.xa_types.declared.call.Op.TheVariants.{Call}
use Rattle.xa_desk.specs.declared.desk.Desk.{Desk}
use Rattle.xa_calls.specs.Going.{PerformsBy, SentAs, refused_by}
use Rattle.xa_calls.specs.Telling.{SentNotes, NotesOne, Closes}
use Rattle.xa_calls.proofs.Going.{looks_on, checked_on}
use Rattle.xa_calls.proofs.Resting.{checked_same}
use Rattle.xa_calls.proofs.Noting.{accepted_one, may_tried, checks_notes, refused_call, awaited_call, awaited_stopped}
use Rattle.xa_calls.proofs.calling.call.Goals as goal

pub returns-then-branch-clause-goes : goal.returns-then-branch-clause-goes
returns-then-branch-clause-goes g c =
    let sent = subst (λ (desk : Desk). PerformsBy c.args.monitor.now.domain.now c.args.op (Call c.args.ask.now) desk c.send.new.desk) c.in-Ok.ensures.kept c.send.ensures.goes in
    let waits = subst (λ (t : Bool). SentAs false c.args.monitor.now.domain.now c.args.op (Ok t) c.send.new.desk) c.if-branch.true c.in_ok-send.ensures.sent in
    looks_on c.args.monitor.now.domain.now false c.args.ask.now c.args.op c.args.desk.now c.send.new.desk c.await_reply.new.desk sent waits c.await_reply.ensures.goes

above : (op before : ℕ) → op ≡ before + 1 → 0 < op
above op before turn = omega (arith, turn)

pub await_reply-requires-clause-some : goal.await_reply-requires-clause-some
await_reply-requires-clause-some g c =
    let waits = subst (λ (t : Bool). SentAs false c.args.monitor.now.domain.now c.args.op (Ok t) c.send.new.desk) c.if-branch.true c.in_ok-send.ensures.sent in
    subst (λ (n : ℕ). 0 < n) (sym waits.made) (above c.args.op c.args.desk.now.caller.op c.requires.turn)

pub returns-in-Err-clause-notes : goal.returns-in-Err-clause-notes
returns-in-Err-clause-notes g c =
    refused_call c.args.op c.in-Err.stop c.in_ok-refused_by-in-Err.field-0 c.args.desk.now c.check.new.self (sym c.refused_by.ensures ∙ c.in_ok-refused_by-in-Err.was)
    (checks_notes c.args.op c.in-Err.stop c.args.desk.now c.check.new.self (above c.args.op c.args.desk.now.caller.op c.requires.turn) c.requires.ready.idle c.in-Err.ensures.refused)

pub returns-in-Err-clause-active : goal.returns-in-Err-clause-active
returns-in-Err-clause-active g c =
    may_tried c.args.op (refused_by c.in-Err.stop) c.args.desk.now c.check.new.self (checked_same c.args.op c.in-Err.stop c.args.desk.now c.check.new.self c.in-Err.ensures.refused)
    (checks_notes c.args.op c.in-Err.stop c.args.desk.now c.check.new.self (above c.args.op c.args.desk.now.caller.op c.requires.turn) c.requires.ready.idle c.in-Err.ensures.refused) c.requires.active

pub returns-then-branch-clause-notes : goal.returns-then-branch-clause-notes
returns-then-branch-clause-notes g c =
    let sent = subst (λ (desk : Desk). PerformsBy c.args.monitor.now.domain.now c.args.op (Call c.args.ask.now) desk c.send.new.desk) c.in-Ok.ensures.kept c.send.ensures.goes in
    let waits = subst (λ (t : Bool). SentAs false c.args.monitor.now.domain.now c.args.op (Ok t) c.send.new.desk) c.if-branch.true c.in_ok-send.ensures.sent in
    let one = subst (λ (t : Bool). SentNotes c.args.op (Ok t) c.args.desk.now c.send.new.desk) c.if-branch.true (subst (λ (desk : Desk). SentNotes c.args.op (Ok c.in_ok-send.field-0) desk c.send.new.desk) c.in-Ok.ensures.kept c.in_ok-send.ensures.notes) in
    awaited_call c.args.op c.await_reply.result c.args.desk.now c.send.new.desk c.await_reply.new.desk sent.same (accepted_one c.args.op c.send.new.desk.caller.sent c.args.desk.now c.send.new.desk one) (subst (λ (n : ℕ). OnOk c.await_reply.result (NotesOne n Closes c.send.new.desk c.await_reply.new.desk)) waits.made c.await_reply.ensures.notes)

pub returns-then-branch-clause-within : goal.returns-then-branch-clause-within
returns-then-branch-clause-within g c =
    let one = subst (λ (t : Bool). SentNotes c.args.op (Ok t) c.args.desk.now c.send.new.desk) c.if-branch.true (subst (λ (desk : Desk). SentNotes c.args.op (Ok c.in_ok-send.field-0) desk c.send.new.desk) c.in-Ok.ensures.kept c.in_ok-send.ensures.notes) in
    awaited_stopped c.args.op c.await_reply.result c.args.desk.now c.send.new.desk c.await_reply.new.desk (accepted_one c.args.op c.send.new.desk.caller.sent c.args.desk.now c.send.new.desk one) c.await_reply.ensures.quiet

pub returns-in-Err-clause-goes : goal.returns-in-Err-clause-goes
returns-in-Err-clause-goes g c =
    let check = c.in-Err.ensures in
    checked_on c.args.monitor.now.domain.now false c.args.ask.now c.args.op c.in-Err.stop c.args.desk.now c.check.new.self check.leads (check.fits false tt) check.refused check.rest

pub returns-in_err-refused_by-in-Err-clause-goes : goal.returns-in_err-refused_by-in-Err-clause-goes
returns-in_err-refused_by-in-Err-clause-goes g c =
    let check = c.in-Err.ensures in
    checked_on c.args.monitor.now.domain.now false c.args.ask.now c.args.op c.in-Err.stop c.args.desk.now c.check.new.self check.leads (check.fits false tt) check.refused check.rest
