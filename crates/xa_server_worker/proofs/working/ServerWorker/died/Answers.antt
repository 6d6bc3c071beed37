use Rattle.std.proofs.Common.{refl, sym, ◌∙◌, ap, subst, rules, ◌≡◌, Err}
use Rattle.xa_desk.specs.xa_server.declared.slot.ServerSlot.{ServerSlot}
use Rattle.xa_desk.specs.xa_server.Doings.{is_death}
use Rattle.xa_desk.specs.xa_server.Changes.{Dies, DiesWorn}
use Rattle.xa_desk.specs.Serving.{IsServing}
use Rattle.xa_server_worker.proofs.Stepping.{stop_by}
use Rattle.xa_server_worker.proofs.Deaths.{dies_goes, dies_off, dies_told, dies_worn, settles_its, settles_took}
use Rattle.xa_server_worker.proofs.working.ServerWorker.died.Goals as goal

pub returns-clause-over : goal.returns-clause-over
returns-clause-over g c =
    let d = c.args.domain.now in
    let w = c.args.self.now in
    let may = c.requires.may in
    let kept = c.keep.new.self in
    let slot' = c.die.new.slot in
    let desk' = c.die.new.self in
    let serving = c.die.ensures.serving w.queue.0 (subst (λ (s : ServerSlot). IsServing d w.queue.0 s w.desk) (sym c.keep.ensures.slot) may.at.serving) in
    let dies = subst (λ (s : ServerSlot). Dies c.cause-cause.result c.in_ok-die.field-0 slot' s desk'.caller.work w.desk.caller.work) c.keep.ensures.slot c.in_ok-die.ensures.ok in
    let why = c.cause-cause.ensures.value in
    let death = ap is_death why ∙ may.dies c.cause-cause.ensures.over.may in (
      dies_off w c.args.over may.at may.last c.cause-cause.ensures.over may.handed kept c.keep.ensures.lives c.keep.ensures.starter slot' desk' c.die.ensures.leads c.die.ensures.rest.1 serving c.cause-cause.result why death may.shut may.spent c.in_ok-die.field-0 w.served.slot.doing refl may.settles dies,
      c.in_ok-die.ensures.told,
      dies_told w c.args.over may.at may.last c.cause-cause.ensures.over may.handed kept c.keep.ensures.lives c.keep.ensures.starter slot' desk' c.die.ensures.leads c.die.ensures.rest.1 serving c.cause-cause.result why death may.shut may.spent c.in_ok-die.field-0 w.served.slot.doing dies,
    )

pub returns-clause-goes : goal.returns-clause-goes
returns-clause-goes g c =
    let d = c.args.domain.now in
    let w = c.args.self.now in
    let may = c.requires.may in
    let kept = c.keep.new.self in
    let slot' = c.die.new.slot in
    let desk' = c.die.new.self in
    let serving = c.die.ensures.serving w.queue.0 (subst (λ (s : ServerSlot). IsServing d w.queue.0 s w.desk) (sym c.keep.ensures.slot) may.at.serving) in
    let dies = subst (λ (s : ServerSlot). Dies c.cause-cause.result c.in_ok-die.field-0 slot' s desk'.caller.work w.desk.caller.work) c.keep.ensures.slot c.in_ok-die.ensures.ok in
    let why = c.cause-cause.ensures.value in
    let death = ap is_death why ∙ may.dies c.cause-cause.ensures.over.may in
    dies_goes w c.args.over may.at may.last c.cause-cause.ensures.over may.handed kept c.keep.ensures.lives c.keep.ensures.starter slot' desk' c.die.ensures.leads c.die.ensures.rest.1 serving c.cause-cause.result why death may.shut may.spent c.in_ok-die.field-0 w.served.slot.doing dies

pub returns-in_err-die-clause-halted : goal.returns-in_err-die-clause-halted
returns-in_err-die-clause-halted g c =
    let d = c.args.domain.now in
    let w = c.args.self.now in
    let may = c.requires.may in
    let kept = c.keep.new.self in
    let slot' = c.die.new.slot in
    let desk' = c.die.new.self in
    let serving = c.die.ensures.serving w.queue.0 (subst (λ (s : ServerSlot). IsServing d w.queue.0 s w.desk) (sym c.keep.ensures.slot) may.at.serving) in
    let worn = subst (λ (s : ServerSlot). DiesWorn c.cause-cause.result c.in_err-die.field-0.0 slot' s desk'.caller.work w.desk.caller.work) c.keep.ensures.slot c.in_err-die.ensures.worn in
    let same : c.from_residual.result ≡ Err (stop_by c.in_err-die.field-0.0) = search rules in
    rw same (
    dies_worn w c.args.over may.at may.last c.cause-cause.ensures.over may.handed kept c.keep.ensures.lives c.keep.ensures.starter slot' desk' c.die.ensures.leads c.die.ensures.rest.1 serving c.cause-cause.result c.in_err-die.field-0.0 (stop_by c.in_err-die.field-0.0) refl (settles_its d w.desk c.args.over _ w.served.slot.doing may.settles) worn
    (settles_took d w.desk c.args.over _ w.served.slot.server.0 w.served.slot.doing (ap (λ s. s.0) may.last.server) may.settles)
    )
