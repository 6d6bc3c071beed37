use Rattle.std.proofs.Common.{sym, ap, subst}
use Rattle.xa_caller.specs.Caller.{CallerState}
use Rattle.xa_caller.specs.xa_worker.Work.{WorkState, noted}
use Rattle.xa_caller.specs.xa_stamp.declared.home.Stamped.{Stamped}
use Rattle.xa_caller.specs.xa_events.declared.event.Doing.TheVariants.{Idle}
use Rattle.xa_server.specs.declared.slot.ServerSlot.{ServerSlot}
use Rattle.xa_server.specs.declared.slot.Last.TheVariants.{Nothing}
use Rattle.xa_server.specs.Slot.{Stands}
use Rattle.xa_server.proofs.Onward.{may_forwarded, forwarded_stands}
use Rattle.xa_server.proofs.slot.ServerSlot.forwarded.Goals as goal

pub forwarded-requires-clause-next : goal.forwarded-requires-clause-next
forwarded-requires-clause-next c = may_forwarded c.requires.out.0 c.args.event.value c.args.self.now c.args.caller.now c.requires.out.1 c.id-itself.ensures.sound

pub returns-clause-stands : goal.returns-clause-stands
returns-clause-stands c =
    let s : ServerSlot = c.args.self.now in
    let x : Stamped = record { stamp = c.args.stamp; event = c.args.event.value } in
    subst (λ (v : WorkState). Stands (record s { doing = Idle c.life_in.result; last = Nothing }) v) (sym (ap (λ (u : CallerState). u.work) c.forwarded.ensures.noted))
    (subst (λ g. Stands (record s { doing = Idle g; last = Nothing }) (noted x c.args.caller.now.work)) (sym c.life_in.ensures) (forwarded_stands c.requires.out.0 c.args.event.value s c.args.caller.now c.requires.out.1 c.args.stamp c.requires.later))
