use Rattle.std.proofs.Common.{refl, sym, ap, subst}
use Rattle.xa_desk.specs.xa_queue.declared.entry.Entry.{Entry}
use Rattle.xa_desk.specs.xa_caller.Drafts.{Cargo}
use Rattle.xa_desk.specs.xa_events.declared.event.Event.{Event}
use Rattle.xa_desk.specs.xa_worker.declared.work.Halt.TheVariants.{NoMemory}
use Rattle.xa_desk.specs.Passing.{forwarded_to}
use Rattle.xa_server_worker.specs.Passing.{TriedAs, its_queue}
use Rattle.xa_server_worker.proofs.Onward.{back_none, retaken}
use Rattle.xa_server_worker.proofs.Reasons.{all_tried}
use Rattle.xa_server_worker.proofs.passing.aim_again.Goals as goal

pub returns-in-At : goal.returns-in-At
returns-in-At c =
    let p = c.requires.passing in
    let aims = c.in-At.ensures.aims in
    λ service has. (
      c.in-At.ensures.passing _ p.0 p.1,
      refl,
      back_none c.args.desk.now c.requires.desk,
      ap (λ (e : Entry Cargo). e.cargo.invocation.payload) aims.2.entered,
      (aims.0, aims.1, ap forwarded_to (sym {A = Event} aims.2.forwards)),
      c.requires.tried,
    )

pub fail-requires-clause-passing : goal.fail-requires-clause-passing
fail-requires-clause-passing c = let p = c.requires.passing in (p.0, c.in-Past.ensures.passing _ p.0 p.1)

pub fail-requires-clause-tried : goal.fail-requires-clause-tried
fail-requires-clause-tried c = all_tried c.args.domain.now c.args.desk.now c.args.attempt c.in-Past.ensures.aims.0 c.requires.tried

pub returns-in-Past : goal.returns-in-Past
returns-in-Past c =
    let d = c.args.domain.now in
    λ service has. subst (λ (e : Entry Cargo). TriedAs d (its_queue d c.args.slot.now) service e.cargo.invocation.payload c.args.attempt c.fail.result c.args.slot.now c.fail.new.slot c.args.desk.now c.fail.new.desk) c.in-Past.ensures.aims.1 (c.fail.ensures service c.args.attempt has)

pub retake-requires : goal.retake-requires
retake-requires c = let p = c.requires.passing in let way = (c.in-NoMemory.ensures.passing _ p.0 p.1).way in record { out = (way.busy, way.out) }

pub returns-in-NoMemory : goal.returns-in-NoMemory
returns-in-NoMemory c =
    let p = c.requires.passing in
    λ service has. retaken c.in-NoMemory.entry p.0 service c.args.entry.cargo.invocation.payload c.args.attempt NoMemory (c.in-NoMemory.ensures.passing _ p.0 p.1) (back_none c.args.desk.now c.requires.desk) tt c.retake.ensures.hand
