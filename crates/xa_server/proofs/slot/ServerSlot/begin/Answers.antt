use Rattle.std.proofs.Common.{Option, refl, sym, ap, subst}
use Rattle.xa_caller.specs.xa_types.declared.ids.Generation.{Generation}
use Rattle.xa_caller.specs.xa_events.declared.event.Taken.{Taken}
use Rattle.xa_caller.specs.xa_events.declared.event.Event.{Event}
use Rattle.xa_caller.specs.xa_events.declared.event.Event.TheVariants.{Take}
use Rattle.xa_caller.specs.xa_events.declared.event.Doing.TheVariants.{Busy}
use Rattle.xa_caller.specs.xa_queue.declared.entry.Entry.{Entry}
use Rattle.xa_caller.specs.Caller.{CallerState}
use Rattle.xa_caller.specs.xa_worker.Work.{WorkState, IsNext, noted}
use Rattle.xa_server.specs.declared.slot.ServerSlot.{ServerSlot}
use Rattle.xa_server.specs.declared.slot.Last.TheVariants as lasts
use Rattle.xa_caller.specs.Drafts.{Cargo}
use Rattle.xa_server.specs.Doings.{life_in}
use Rattle.xa_server.specs.Slot.{Stands}
use Rattle.xa_server.proofs.Reading.{may_taken, taken_stands}
use Rattle.xa_server.proofs.slot.ServerSlot.begin.Goals as goal

pub noted-requires-clause-next : goal.noted-requires-clause-next
noted-requires-clause-next c =
    let s : ServerSlot = c.args.self.now in
    let t = c.requires.taken in
    subst (IsNext c.args.caller.now.work) (sym t.is)
    (may_taken s c.args.caller.now.work c.requires.stands.tables (record { request = c.args.entry.request; server = s.server; generation = life_in s.doing; k = t.k }) refl t.idle)

pub returns-clause-stands : goal.returns-clause-stands
returns-clause-stands c =
    let s : ServerSlot = c.args.self.now in
    let w : WorkState = c.args.caller.now.work in
    let t = c.requires.taken in
    let take : Taken = record { request = c.args.entry.request; server = s.server; generation = life_in s.doing; k = t.k } in
    let busy : Generation → Option (Entry Cargo) → ServerSlot = λ g hand. record s { doing = Busy g c.args.entry.request; hand = hand; last = lasts.Nothing } in
    subst (λ (v : WorkState). Stands (busy c.life_in.result c.put_in.new.hand) v) (sym (ap (λ (u : CallerState). u.work) c.noted.ensures.noted))
    (subst (λ (e : Event). Stands (busy c.life_in.result c.put_in.new.hand) (noted (record { stamp = c.args.stamp; event = e }) w)) (sym t.is)
    (subst (λ g. Stands (busy g c.put_in.new.hand) (noted (record { stamp = c.args.stamp; event = Take take }) w)) (sym c.life_in.ensures)
    (subst (λ hand. Stands (busy (life_in s.doing) hand) (noted (record { stamp = c.args.stamp; event = Take take }) w)) (sym c.put_in.ensures)
    (taken_stands s w c.requires.stands take c.args.entry c.args.stamp refl t.idle refl c.requires.later))))
