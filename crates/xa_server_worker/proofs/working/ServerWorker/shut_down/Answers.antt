use Rattle.std.proofs.Common.{sym, ◌∙◌, subst, rules, ◌≡◌, Err, refl}
use Rattle.xa_desk.specs.xa_server.declared.slot.ServerSlot.{ServerSlot}
use Rattle.xa_desk.specs.xa_server.Changes.{Stops}
use Rattle.xa_desk.specs.Serving.{IsServing}
use Rattle.xa_server_worker.proofs.Stepping.{stop_by}
use Rattle.xa_server_worker.proofs.Deaths.{shutdown_is, shutdown_not}
use Rattle.xa_server_worker.proofs.Exchanges.{shut_dies, shuts_down, shuts_worn}
use Rattle.xa_server_worker.proofs.working.ServerWorker.shut_down.Goals as goal

pub died-requires-clause-may : goal.died-requires-clause-may
died-requires-clause-may g c =
    shut_dies c.args.self.now c.args.life c.shut_down-over.result c.shut_down-over.ensures (shutdown_not c.cause.result c.shut_down-over.result.cause c.cause.ensures.value (sym c.is_shutdown.ensures ∙ c.if-not-is_shutdown.true)) c.requires.shut c.requires.free

pub returns-clause-off : goal.returns-clause-off
returns-clause-off g c =
    let d = c.args.domain.now in
    let w = c.args.self.now in
    let is = c.requires.free in
    let serving = c.stop.ensures.serving w.queue.0 (subst (λ (s : ServerSlot). IsServing d w.queue.0 s w.desk) (sym c.keep.ensures.slot) is.at.serving) in
    let stops = subst (λ (s : ServerSlot). Stops _ c.in_ok-stop.field-0 c.stop.new.slot s c.stop.new.self.caller.work w.desk.caller.work) c.keep.ensures.slot c.in_ok-stop.ensures.ok in
    let why = sym (shutdown_is c.cause.result (sym c.is_shutdown.ensures ∙ c.if-not-is_shutdown.false)) ∙ c.cause.ensures.value in
    shuts_down w c.args.life c.shut_down-over.result c.keep.new.self c.stop.new.slot c.stop.new.self c.in_ok-stop.field-0 is c.shut_down-over.ensures c.cause.ensures.over why c.keep.ensures.lives c.keep.ensures.starter c.stop.ensures.leads c.stop.ensures.rest.1 serving c.requires.shut stops

pub returns-in_err-stop-clause-halted : goal.returns-in_err-stop-clause-halted
returns-in_err-stop-clause-halted g c =
    let d = c.args.domain.now in
    let w = c.args.self.now in
    let is = c.requires.free in
    let kept = c.in_err-stop.ensures.kept in
    let serving = c.stop.ensures.serving w.queue.0 (subst (λ (s : ServerSlot). IsServing d w.queue.0 s w.desk) (sym c.keep.ensures.slot) is.at.serving) in
    let same : c.from_residual-in_err-stop.result ≡ Err (stop_by c.in_err-stop.field-0.0) = search rules in
    rw same (
    shuts_worn w c.args.life c.shut_down-over.result c.keep.new.self c.stop.new.slot c.stop.new.self is c.shut_down-over.ensures c.cause.ensures.over c.keep.ensures.lives c.keep.ensures.starter c.stop.ensures.leads c.stop.ensures.rest.1 serving c.in_err-stop.field-0.0 (stop_by c.in_err-stop.field-0.0) refl c.in_err-stop.ensures.worn (kept.0 ∙ c.keep.ensures.slot) kept.1
    )
