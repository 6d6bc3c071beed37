use Rattle.std.proofs.Common.{◌+◌, refl, sym, subst}
use Rattle.xa_caller.specs.xa_events.declared.event.Started.{Started}
use Rattle.xa_caller.specs.xa_events.declared.event.Event.TheVariants.{StartFailed}
use Rattle.xa_restart.specs.Rule.{IsLast}
use Rattle.xa_caller.specs.xa_worker.Work.{WorkState, IsNext, noted_here}
use Rattle.xa_server.specs.declared.slot.ServerSlot.{ServerSlot}
use Rattle.xa_server.specs.Noting.{with_room}
use Rattle.xa_server.specs.Slot.{Stands}
use Rattle.xa_server.specs.Changes.{with_start}
use Rattle.xa_server.proofs.Reading.{may_started, last_by_floor, failed_stands}
use Rattle.xa_server.proofs.slot.ServerSlot.start_failed.Goals as goal

pub note_anew-requires-clause-next : goal.note_anew-requires-clause-next
note_anew-requires-clause-next c =
    let s : ServerSlot = c.args.self.now in
    subst (λ (b : Started). IsNext c.args.caller.now.work (StartFailed b)) (sym c.next-started.ensures)
    (may_started s c.args.caller.now.work c.requires.stands.tables (record { 0 = s.made + 1 }) c.args.tick refl c.requires.may).1

pub record_start-requires-clause-last : goal.record_start-requires-clause-last
record_start-requires-clause-last c =
    let s : ServerSlot = c.args.self.now in
    subst (λ (b : Started). IsLast b.tick s.restarts.starts) (sym c.next-started.ensures) (last_by_floor s c.args.caller.now.work c.requires.stands.tables c.args.tick c.requires.may.floor)

pub returns-clause-stands : goal.returns-clause-stands
returns-clause-stands c =
    let s : ServerSlot = c.args.self.now in
    let w : WorkState = c.args.caller.now.work in
    let b : Started = c.next-started.result in
    let noted = c.in_ok-note_anew.ensures.noted in
    let stamp = c.in_ok-note_anew.field-0 in
    subst (λ (u : ServerSlot). Stands u c.note_anew.new.caller.work) (sym c.record_start.ensures)
    (subst (λ (v : WorkState). Stands (with_start b.tick s) v) (sym noted.made)
    (subst (λ (b : Started). Stands (with_start b.tick s) (noted_here (record { stamp = stamp; event = StartFailed b }) (with_room 1 w))) (sym c.next-started.ensures)
    (failed_stands s w c.requires.stands (record { 0 = s.made + 1 }) c.args.tick stamp c.requires.may noted.next)))

pub note_anew-requires-clause-none : goal.note_anew-requires-clause-none
note_anew-requires-clause-none c = c.requires.stands.tables.worker.none
