use Rattle.std.proofs.Common.{Ok}
use Rattle.xa_desk.specs.xa_types.declared.call.Op.TheVariants.{Cancel}
use Rattle.xa_calls.proofs.Given.{cancel_got, cancelled_by, got_performs, got_may, told_given}
use Rattle.xa_calls.proofs.getting.cancel.Goals as goal

pub returns-in_err-cancel-clause-goes : goal.returns-in_err-cancel-clause-goes
returns-in_err-cancel-clause-goes g c =
    let d = c.args.monitor.now.domain.now in
    let old = c.args.desk.now in
    let new = c.cancel.new.self in
    let cancel = c.cancel.ensures in
    let sound = c.id-itself.ensures.sound in
    got_performs d c.args.op (Cancel c.args.descriptor) old new cancel.leads c.requires.turn c.requires.ready.idle sound (cancelled_by c.cancel.result) cancel.rest cancel.fits (cancel_got d old new c.args.op c.requires.ready c.requires.turn sound cancel.leads c.args.descriptor c.cancel.result cancel.cancels)

pub returns-clause-goes : goal.returns-clause-goes
returns-clause-goes g c =
    let d = c.args.monitor.now.domain.now in
    let old = c.args.desk.now in
    let new = c.cancel.new.self in
    let cancel = c.cancel.ensures in
    let sound = c.id-itself.ensures.sound in
    got_performs d c.args.op (Cancel c.args.descriptor) old new cancel.leads c.requires.turn c.requires.ready.idle sound (cancelled_by c.cancel.result) cancel.rest cancel.fits (cancel_got d old new c.args.op c.requires.ready c.requires.turn sound cancel.leads c.args.descriptor c.cancel.result cancel.cancels)

pub returns-clause-active : goal.returns-clause-active
returns-clause-active g c =
    let d = c.args.monitor.now.domain.now in
    let old = c.args.desk.now in
    let new = c.cancel.new.self in
    let cancel = c.cancel.ensures in
    let sound = c.id-itself.ensures.sound in
    got_may d c.args.op old new cancel.leads c.requires.turn c.requires.ready.idle sound (cancelled_by c.cancel.result) (cancel_got d old new c.args.op c.requires.ready c.requires.turn sound cancel.leads c.args.descriptor c.cancel.result cancel.cancels) c.requires.active

pub returns-clause-told : goal.returns-clause-told
returns-clause-told g c =
    let d = c.args.monitor.now.domain.now in
    let old = c.args.desk.now in
    let new = c.cancel.new.self in
    let got = cancel_got d old new c.args.op c.requires.ready c.requires.turn c.id-itself.ensures.sound c.cancel.ensures.leads c.args.descriptor (Ok c.in_ok-cancel.field-0) c.in_ok-cancel.ensures.cancels in
    told_given c.given_at.result c.args.op old new got.same c.given_at.ensures got.notes
