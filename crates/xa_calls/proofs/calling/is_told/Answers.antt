use Rattle.std.proofs.Common.{refl, sym, ◌∙◌, subst, false}
use Rattle.xa_calls.specs.Telling.{LookNotes}
use Rattle.xa_calls.specs.Going.{told_by}
use Rattle.xa_calls.proofs.Going.{replied_on}
use Rattle.xa_calls.proofs.Resting.{pending, replied_same}
use Rattle.xa_calls.proofs.Noting.{looks_notes, may_look}
use Rattle.xa_calls.proofs.calling.is_told.Goals as goal

pub returns-clause-goes : goal.returns-clause-goes
returns-clause-goes c =
    let look = c.look_for_reply in
    replied_on c.args.domain.now false c.args.ask.now c.args.desk.now.caller.op c.args.ask.now.expect look.result c.args.desk.now look.new.self look.ensures.leads (look.ensures.fits c.args.ask.now refl) look.ensures.step look.ensures.rest

pub returns-clause-pends : goal.returns-clause-pends
returns-clause-pends c =
    let look = c.look_for_reply in
    λ waits. pending c.args.ask.now.expect look.result c.args.desk.now look.new.self look.ensures.step look.ensures.rest (sym c.told_by.ensures ∙ waits)

pub returns-clause-notes : goal.returns-clause-notes
returns-clause-notes c =
    let old = c.args.desk.now in
    subst (λ r. LookNotes old.caller.op r old c.look_for_reply.new.self) (sym c.told_by.ensures) (looks_notes c.args.ask.now.expect c.look_for_reply.result old c.look_for_reply.new.self c.requires.some c.id-itself.ensures.sound c.look_for_reply.ensures.step)

pub returns-clause-active : goal.returns-clause-active
returns-clause-active c =
    let old = c.args.desk.now in
    may_look old.caller.op (told_by c.look_for_reply.result) old c.look_for_reply.new.self (replied_same c.args.ask.now.expect c.look_for_reply.result old c.look_for_reply.new.self c.look_for_reply.ensures.step)
    (looks_notes c.args.ask.now.expect c.look_for_reply.result old c.look_for_reply.new.self c.requires.some c.id-itself.ensures.sound c.look_for_reply.ensures.step) c.requires.active
