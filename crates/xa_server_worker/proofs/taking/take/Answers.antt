use Rattle.std.proofs.Common.{rules, ◌≡◌, Err, refl, sym, subst}
use Rattle.xa_server_worker.specs.Steps.{TakesFrom}
use Rattle.xa_server_worker.proofs.Stepping.{stop_by, takes_from, takes_worn}
use Rattle.xa_server_worker.proofs.taking.take.Goals as goal

pub returns : goal.returns
returns g c = takes_from c.take.result c.in_ok-take.field-0 c.in_ok-take.was c.take.ensures.leads c.requires.serving c.take.ensures.serving c.take.ensures.taken

pub returns-in_err-take : goal.returns-in_err-take
returns-in_err-take g c =
    let worn = c.in_err-take.field-0.0 in
    let same : c.from_residual.result ≡ Err (stop_by worn) = search rules in
    subst (λ r. TakesFrom c.args.monitor.now.domain.now c.args.queue.0 r c.args.slot.now c.take.new.slot c.args.desk.now c.take.new.self) (sym same)
    (takes_worn c.take.result worn (stop_by worn) c.in_err-take.was refl c.take.ensures.leads c.take.ensures.serving c.take.ensures.taken)
