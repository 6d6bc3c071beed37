use Rattle.std.proofs.Common.{◌≡◌, ℕ, Option, Some, None, sym, subst}
use Rattle.xa_desk.specs.xa_types.declared.call.Op.TheVariants.{Get, GetAny}
use Rattle.xa_calls.specs.Going.{PerformsBy, get_by, told_by}
use Rattle.xa_calls.specs.Telling.{GotNotes}
use Rattle.xa_calls.proofs.Given.{some_got, any_got, got_performs, got_may}
use Rattle.xa_calls.proofs.getting.is_over.Goals as goal

pub returns-in-Some-clause-goes : goal.returns-in-Some-clause-goes
returns-in-Some-clause-goes g c =
    let d = c.args.monitor.now.domain.now in
    let old = c.args.desk.now in
    let new = c.get-step.new.self in
    let get = c.get-step.ensures in
    let sound = c.id-itself.ensures.sound in
    let wanted = c.args.wanted in
    let got = some_got d old new c.args.op c.requires.ready c.requires.turn sound get.leads c.in-Some.descriptor wanted.expect.now wanted.flags.no_block c.get-step.result get.step in
    subst (λ (o : Option ℕ). PerformsBy d c.args.op (get_by o wanted.flags wanted.expect.now) old new) (sym c.in-Some.is)
    (got_performs d c.args.op (Get c.in-Some.descriptor wanted.flags wanted.expect.now) old new get.leads c.requires.turn c.requires.ready.idle sound (told_by c.get-step.result) get.rest get.fits got)

pub returns-in-Some-clause-active : goal.returns-in-Some-clause-active
returns-in-Some-clause-active g c =
    let d = c.args.monitor.now.domain.now in
    let old = c.args.desk.now in
    let new = c.get-step.new.self in
    let get = c.get-step.ensures in
    let sound = c.id-itself.ensures.sound in
    let wanted = c.args.wanted in
    let got = some_got d old new c.args.op c.requires.ready c.requires.turn sound get.leads c.in-Some.descriptor wanted.expect.now wanted.flags.no_block c.get-step.result get.step in
    got_may d c.args.op old new get.leads c.requires.turn c.requires.ready.idle sound (told_by c.get-step.result) got c.requires.active

pub returns-in-Some-clause-notes : goal.returns-in-Some-clause-notes
returns-in-Some-clause-notes g c =
    let d = c.args.monitor.now.domain.now in
    let old = c.args.desk.now in
    let new = c.get-step.new.self in
    let get = c.get-step.ensures in
    let sound = c.id-itself.ensures.sound in
    let wanted = c.args.wanted in
    let got = some_got d old new c.args.op c.requires.ready c.requires.turn sound get.leads c.in-Some.descriptor wanted.expect.now wanted.flags.no_block c.get-step.result get.step in
    subst (λ r. GotNotes c.args.op r old new) (sym c.told_by.ensures) got.notes

pub returns-in-None-clause-goes : goal.returns-in-None-clause-goes
returns-in-None-clause-goes g c =
    let d = c.args.monitor.now.domain.now in
    let old = c.args.desk.now in
    let new = c.get_any.new.self in
    let get = c.get_any.ensures in
    let sound = c.id-itself.ensures.sound in
    let wanted = c.args.wanted in
    let got = any_got d old new c.args.op c.requires.ready c.requires.turn sound get.leads wanted.expect.now wanted.flags.no_block c.get_any.result get.step in
    subst (λ (o : Option ℕ). PerformsBy d c.args.op (get_by o wanted.flags wanted.expect.now) old new) (sym c.in-None.is)
    (got_performs d c.args.op (GetAny wanted.flags wanted.expect.now) old new get.leads c.requires.turn c.requires.ready.idle sound (told_by c.get_any.result) get.rest get.fits got)

pub returns-in-None-clause-active : goal.returns-in-None-clause-active
returns-in-None-clause-active g c =
    let d = c.args.monitor.now.domain.now in
    let old = c.args.desk.now in
    let new = c.get_any.new.self in
    let get = c.get_any.ensures in
    let sound = c.id-itself.ensures.sound in
    let wanted = c.args.wanted in
    let got = any_got d old new c.args.op c.requires.ready c.requires.turn sound get.leads wanted.expect.now wanted.flags.no_block c.get_any.result get.step in
    got_may d c.args.op old new get.leads c.requires.turn c.requires.ready.idle sound (told_by c.get_any.result) got c.requires.active

pub returns-in-None-clause-notes : goal.returns-in-None-clause-notes
returns-in-None-clause-notes g c =
    let d = c.args.monitor.now.domain.now in
    let old = c.args.desk.now in
    let new = c.get_any.new.self in
    let get = c.get_any.ensures in
    let sound = c.id-itself.ensures.sound in
    let wanted = c.args.wanted in
    let got = any_got d old new c.args.op c.requires.ready c.requires.turn sound get.leads wanted.expect.now wanted.flags.no_block c.get_any.result get.step in
    subst (λ r. GotNotes c.args.op r old new) (sym c.told_by-in-None.ensures) got.notes
