use Rattle.std.proofs.Common.{true, sym, ap, subst}
use Rattle.xa_caller.specs.xa_events.declared.event.Event.{Event}
use Rattle.xa_caller.specs.Caller.{CallerState}
use Rattle.xa_caller.specs.xa_worker.Work.{WorkState, IsNext, noted}
use Rattle.xa_server.specs.declared.slot.ServerSlot.{ServerSlot}
use Rattle.xa_server.specs.Slot.{Stands}
use Rattle.xa_server.proofs.Reading.{may_gone, gone_stands}
use Rattle.xa_server.proofs.slot.ServerSlot.given_up.Goals as goal

pub noted-requires-clause-next : goal.noted-requires-clause-next
noted-requires-clause-next c = subst (IsNext c.args.caller.now.work) (sym c.requires.gone) (may_gone c.args.self.now c.args.caller.now.work c.requires.stands.tables c.args.tick c.requires.may)

pub returns-clause-stands : goal.returns-clause-stands
returns-clause-stands c =
    let s : ServerSlot = c.args.self.now in
    let w : WorkState = c.args.caller.now.work in
    subst (λ (v : WorkState). Stands (record s { gone = true }) v) (sym (ap (λ (u : CallerState). u.work) c.noted.ensures.noted))
    (subst (λ (e : Event). Stands (record s { gone = true }) (noted (record { stamp = c.args.stamp; event = e }) w)) (sym c.requires.gone) (gone_stands s w c.requires.stands c.args.stamp c.requires.later))
