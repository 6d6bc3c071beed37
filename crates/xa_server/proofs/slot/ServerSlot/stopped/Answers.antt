use Rattle.std.proofs.Common.{Bool, sym, subst}
use Rattle.xa_caller.specs.xa_types.declared.ids.Generation.{Generation}
use Rattle.xa_caller.specs.xa_events.declared.event.Doing.TheVariants.{Off}
use Rattle.xa_caller.specs.xa_events.declared.event.Event.TheVariants.{Stop}
use Rattle.xa_caller.specs.xa_worker.Work.{WorkState, IsNext, noted_here}
use Rattle.xa_server.specs.declared.slot.ServerSlot.{ServerSlot}
use Rattle.xa_server.specs.declared.slot.Last.TheVariants as lasts
use Rattle.xa_server.specs.Slot.{Stands}
use Rattle.xa_server.proofs.Reading.{may_stopped, stopped_stands}
use Rattle.xa_server.proofs.slot.ServerSlot.stopped.Goals as goal

pub note_in_room-requires-clause-next : goal.note_in_room-requires-clause-next
note_in_room-requires-clause-next c =
    let s : ServerSlot = c.args.self.now in
    let w : WorkState = c.args.caller.now.work in
    subst (λ (g : Generation). IsNext w (Stop (record { server = s.server; generation = g; cause = c.args.cause }))) (sym c.life_in.ensures) (may_stopped s w c.requires.stands.tables c.args.cause c.requires.may)

pub returns-clause-stands : goal.returns-clause-stands
returns-clause-stands c =
    let s : ServerSlot = c.args.self.now in
    let w : WorkState = c.args.caller.now.work in
    let new : Bool → ServerSlot = λ shut. record s { doing = Off; last = lasts.Nothing; shut = shut } in
    subst (λ (v : WorkState). Stands (new c.is_shutdown-self.result) v) (sym c.in_ok-stamp.ensures.noted.made)
    (subst (λ b. Stands (new b) (noted_here (record { stamp = c.in_ok-stamp.stamp; event = Stop (record { server = s.server; generation = c.life_in.result; cause = c.args.cause }) }) w)) (sym c.is_shutdown-self.ensures)
    (stopped_stands s w c.requires.stands c.args.cause c.life_in.result c.in_ok-stamp.stamp c.requires.free c.in_ok-stamp.ensures.noted.next))

pub note_in_room-requires-clause-none : goal.note_in_room-requires-clause-none
note_in_room-requires-clause-none c = c.requires.stands.tables.worker.none
