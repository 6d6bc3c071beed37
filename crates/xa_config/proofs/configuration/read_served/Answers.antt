use Rattle.std.proofs.Common.{ap}
use Rattle.std.proofs.lemmas.Result.{err_from_is_err_and}
use Rattle.toml.specs.View.{view}
use Rattle.xa_config.proofs.Reading.{served_read}
use Rattle.xa_config.proofs.Tells.{tells_front, tells_behind}
use Rattle.xa_config.proofs.configuration.read_served.Goals as goal

pub returns-in_err-servers : goal.returns-in_err-servers
returns-in_err-servers c =
    let p = err_from_is_err_and c.from_residual.result c.from_residual.ensures.1 in
    rw (p.1, p.2) (tells_front _ _ _ (tells_front _ _ _ (tells_front _ _ _ c.in_err-servers.ensures.read)))

pub returns-in_err-services : goal.returns-in_err-services
returns-in_err-services c =
    let p = err_from_is_err_and c.from_residual-in_err-services.result c.from_residual-in_err-services.ensures.1 in
    rw (p.1, p.2) (tells_front _ _ _ (tells_front _ _ _ (tells_behind _ _ _ c.in_ok-servers.ensures.read.0 c.in_err-services.ensures.read)))

pub returns : goal.returns
returns c =
    let servers = c.in_ok-servers.ensures.read in
    let services = c.in_ok-services.ensures.read in
    rw c.and.ensures
    (served_read (view c.args.document.now) c.args.queues.now c.args.shapes.now c.in_ok-servers.servers c.in_ok-services.services c.check_whole.result
    servers.0 services.0 (ap (λ both. both.0) servers.1) (ap (λ both. both.0) services.1)
    (rw (c.slice.ensures, c.slice-2.ensures) at c.check_whole.ensures))
