use Rattle.std.proofs.Common.{◌≡◌, ℕ, ◌+◌, ◌<◌, Bool, true, Ok, inl, sym, ◌∙◌, subst, arith}
use Rattle.xa_desk.specs.xa_types.declared.call.Op.TheVariants.{Acall}
use Rattle.xa_desk.specs.declared.desk.Desk.{Desk}
use Rattle.xa_calls.specs.declared.telling.Told.TheVariants as tells
use Rattle.xa_calls.specs.Going.{PerformsBy, refused_by}
use Rattle.xa_calls.specs.Telling.{SentNotes, IsTold}
use Rattle.xa_calls.proofs.Given.{told_sent}
use Rattle.xa_calls.proofs.Going.{checked_on}
use Rattle.xa_calls.proofs.Resting.{checked_same}
use Rattle.xa_calls.proofs.Noting.{may_tried, checks_notes, refused_call, told_call}
use Rattle.xa_calls.proofs.calling.acall.Goals as goal

above : (op before : ℕ) → op ≡ before + 1 → 0 < op
above op before turn = omega (arith, turn)

pub returns-in_err-refused_by-in-Err-clause-goes : goal.returns-in_err-refused_by-in-Err-clause-goes
returns-in_err-refused_by-in-Err-clause-goes g c =
    let check = c.in-Err.ensures in
    checked_on c.args.monitor.now.domain.now true c.args.ask.now c.args.op c.in-Err.stop c.args.desk.now c.check.new.self check.leads (check.fits true c.requires.kind.1) check.refused check.rest

pub returns-in-Err-clause-goes : goal.returns-in-Err-clause-goes
returns-in-Err-clause-goes g c =
    let check = c.in-Err.ensures in
    checked_on c.args.monitor.now.domain.now true c.args.ask.now c.args.op c.in-Err.stop c.args.desk.now c.check.new.self check.leads (check.fits true c.requires.kind.1) check.refused check.rest

pub returns-in-Err-clause-active : goal.returns-in-Err-clause-active
returns-in-Err-clause-active g c =
    may_tried c.args.op (refused_by c.in-Err.stop) c.args.desk.now c.check.new.self (checked_same c.args.op c.in-Err.stop c.args.desk.now c.check.new.self c.in-Err.ensures.refused)
    (checks_notes c.args.op c.in-Err.stop c.args.desk.now c.check.new.self (above c.args.op c.args.desk.now.caller.op c.requires.turn) c.requires.ready.idle c.in-Err.ensures.refused) c.requires.active

pub returns-in-Err-clause-told : goal.returns-in-Err-clause-told
returns-in-Err-clause-told g c =
    told_call c.told_at.result c.args.op c.args.desk.now c.check.new.self (checked_same c.args.op c.in-Err.stop c.args.desk.now c.check.new.self c.in-Err.ensures.refused) c.told_at.ensures
    (refused_call c.args.op c.in-Err.stop c.in_ok-refused_by-in-Err.field-0 c.args.desk.now c.check.new.self (sym c.refused_by.ensures ∙ c.in_ok-refused_by-in-Err.was)
    (checks_notes c.args.op c.in-Err.stop c.args.desk.now c.check.new.self (above c.args.op c.args.desk.now.caller.op c.requires.turn) c.requires.ready.idle c.in-Err.ensures.refused))

pub returns-then-branch-clause-goes : goal.returns-then-branch-clause-goes
returns-then-branch-clause-goes g c = subst (λ (desk : Desk). PerformsBy c.args.monitor.now.domain.now c.args.op (Acall c.args.ask.now) desk c.send.new.desk) c.in-Ok.ensures.kept c.send.ensures.goes

pub returns-then-branch-clause-told : goal.returns-then-branch-clause-told
returns-then-branch-clause-told g c =
    let goes = subst (λ (desk : Desk). PerformsBy c.args.monitor.now.domain.now c.args.op (Acall c.args.ask.now) desk c.send.new.desk) c.in-Ok.ensures.kept c.send.ensures.goes in
    let one = subst (λ (t : Bool). SentNotes c.args.op (Ok t) c.args.desk.now c.send.new.desk) c.if-branch.true (subst (λ (desk : Desk). SentNotes c.args.op (Ok c.in_ok-send.field-0) desk c.send.new.desk) c.in-Ok.ensures.kept c.in_ok-send.ensures.notes) in
    subst (λ (n : ℕ). IsTold (tells.Descriptor n) c.args.op c.args.desk.now c.send.new.desk) (sym c.last_request.ensures.value)
    (told_sent c.args.op c.send.new.desk.caller.sent c.args.desk.now c.send.new.desk goes.same c.requires.kind.0 one)

pub returns-clause-told : goal.returns-clause-told
returns-clause-told g c =
    let goes = subst (λ (desk : Desk). PerformsBy c.args.monitor.now.domain.now c.args.op (Acall c.args.ask.now) desk c.send.new.desk) c.in-Ok.ensures.kept c.send.ensures.goes in
    let one = subst (λ (t : Bool). SentNotes c.args.op (Ok t) c.args.desk.now c.send.new.desk) c.if-branch.false (subst (λ (desk : Desk). SentNotes c.args.op (Ok c.in_ok-send.field-0) desk c.send.new.desk) c.in-Ok.ensures.kept c.in_ok-send.ensures.notes) in
    told_call c.told_at-2.result c.args.op c.args.desk.now c.send.new.desk goes.same c.told_at-2.ensures (inl one)
