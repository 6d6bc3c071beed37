use Rattle.std.proofs.Common.{[], Some, inr, refl, sym, ◌∙◌, ap, subst}
use Rattle.xa_desk.specs.xa_worker.Work.{WorkState}
use Rattle.xa_desk.specs.xa_server.declared.slot.ServerSlot.{ServerSlot}
use Rattle.xa_desk.specs.xa_server.Changes.{Stops}
use Rattle.xa_desk.specs.Serving.{IsServing}
use Rattle.xa_server_worker.proofs.Behind.{leads_behind}
use Rattle.xa_server_worker.proofs.Stepping.{still_steps, steps_trans, told_steps, told_on}
use Rattle.xa_server_worker.proofs.Lasting.{at_kept, goes_by, ended_tells}
use Rattle.xa_server_worker.proofs.Exchanges.{exits_off, exits_worn}
use Rattle.xa_server_worker.proofs.working.ServerWorker.exit.Goals as goal

pub returns-in-Ok-clause-over : goal.returns-in-Ok-clause-over
returns-in-Ok-clause-over g c =
    let d = c.args.monitor.now.domain.now in
    let w = c.args.self.now in
    let kept = c.keep.new.self in
    let is = c.requires.life in
    let serving = c.stop.ensures.serving w.queue.0 (subst (λ (s : ServerSlot). IsServing d w.queue.0 s w.desk) (sym c.keep.ensures.slot) is.at.serving) in
    let stops = subst (λ (s : ServerSlot). Stops _ c.in-Ok.field-0 c.stop.new.slot s c.stop.new.self.caller.work w.desk.caller.work) c.keep.ensures.slot c.in-Ok.ensures.ok in (
      exits_off w c.args.life c.exit-over.result kept c.stop.new.slot c.stop.new.self c.in-Ok.field-0 is c.requires.untold c.exit-over.ensures c.cause-cause.ensures.over c.keep.ensures.lives c.keep.ensures.starter c.stop.ensures.leads c.stop.ensures.rest.1 serving stops,
      told_on c.stop.ensures.leads c.latest-rises.ensures.rises (Some c.args.closing) c.requires.told,
      leads_behind w.desk c.stop.new.self c.stop.ensures.leads c.stop.ensures.rest.1 c.requires.untold,
    )

pub returns-in-Err-clause-goes : goal.returns-in-Err-clause-goes
returns-in-Err-clause-goes g c =
    let kept = c.in-Err.ensures.kept in
    let still = still_steps c.stop.ensures.leads (ap (λ (w : WorkState). w.id) kept.1) (ap (λ (w : WorkState). w.clients) kept.1) (ap (λ (w : WorkState). w.own) kept.1) in
    goes_by c.args.self.now _ [] (steps_trans [] [] still (told_steps c.tell.ensures)) (ap (λ (s : ServerSlot). s.server) kept.0 ∙ ap (λ (s : ServerSlot). s.server) c.keep.ensures.slot) refl refl

pub returns-in-Err-clause-halted : goal.returns-in-Err-clause-halted
returns-in-Err-clause-halted g c =
    let d = c.args.monitor.now.domain.now in
    let w = c.args.self.now in
    let is = c.requires.life in
    let kept = c.in-Err.ensures.kept in
    let serving = c.stop.ensures.serving w.queue.0 (subst (λ (s : ServerSlot). IsServing d w.queue.0 s w.desk) (sym c.keep.ensures.slot) is.at.serving) in
    let ended = exits_worn w c.args.life c.exit-over.result c.keep.new.self c.stop.new.slot c.stop.new.self is c.exit-over.ensures c.cause-cause.ensures.over c.keep.ensures.lives c.keep.ensures.starter c.stop.ensures.leads c.stop.ensures.rest.1 serving c.in-Err.worn c.into.result c.into.ensures c.in-Err.ensures.worn
    (kept.0 ∙ c.keep.ensures.slot) kept.1 in
    ended_tells (at_kept w c.keep.new.self c.stop.new.slot c.stop.new.self) c.stop.new.slot c.tell.new.desk _ refl (inr refl) c.tell.ensures ended
