use Rattle.std.proofs.Common.{◌+◌, ◌<◌, ◌-◌, ℕ, length, sym, ◌∙◌, ap, subst}
use Rattle.xa_server.specs.xa_types.Setup.{queue_of}
use Rattle.xa_server.specs.xa_types.declared.ids.CallerId.{CallerId}
use Rattle.xa_desk.proofs.OwnQueue.{its_queue, is_itself, is_at_work}
use Rattle.xa_desk.proofs.Refusals.{client_refused}
use Rattle.xa_desk.proofs.desk.Desk.change.Goals as goal

pub refuse_role-requires-clause-so : goal.refuse_role-requires-clause-so
refuse_role-requires-clause-so g c =
    let d = c.args.domain.now in
    let desk = c.args.self.now in
    (c.args.change.now, client_refused d desk c.args.change.now c.requires.kind (is_itself d desk c.requires.desk c.id-caller.result c.id-caller.ensures.value c.if-caller-domain.true c.requires.active))

pub returns-then-caller-domain-clause-fits : goal.returns-then-caller-domain-clause-fits
returns-then-caller-domain-clause-fits g c =
    let d = c.args.domain.now in
    let desk = c.args.self.now in
    c.refuse_role.ensures.fits c.args.change.now (client_refused d desk c.args.change.now c.requires.kind (is_itself d desk c.requires.desk c.id-caller.result c.id-caller.ensures.value c.if-caller-domain.true c.requires.active))

pub advertise-requires-clause-some : goal.advertise-requires-clause-some
advertise-requires-clause-some g c =
    let d = c.args.domain.now in
    let desk = c.args.self.now in
    let its = its_queue d desk c.requires.domain c.requires.desk (is_at_work d desk c.requires.desk c.id-caller.result c.id-caller.ensures.value c.if-caller-domain.false c.requires.active) in
    let queue = c.queue_of-queue.ensures ∙ ap (λ (i : CallerId). queue_of d.setup (i.0 - d.clients)) c.id-caller.ensures.value in
    subst (λ (q : ℕ). (0 < q) × (q < length d.setup.queues + 1)) (sym queue) its
