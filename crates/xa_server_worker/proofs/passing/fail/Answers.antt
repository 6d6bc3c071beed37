use Rattle.xa_server_worker.proofs.Onward.{fails_on, fails_halted}
use Rattle.xa_server_worker.proofs.passing.fail.Goals as goal

pub returns-in-Ok : goal.returns-in-Ok
returns-in-Ok c =
    let p = c.requires.passing in
    let failed = c.fail_to_pass.ensures in
    λ service next has. fails_on c.args.entry p.0 service c.in-Ok.closing c.requires.desk p.1 has c.requires.tried failed.leads (failed.serving _ p.0 p.1) failed.rest.1 c.in-Ok.ensures.ok c.in-Ok.ensures.told

pub returns-in-Err : goal.returns-in-Err
returns-in-Err c =
    let p = c.requires.passing in
    let failed = c.fail_to_pass.ensures in
    λ service next has. fails_halted c.args.entry service c.args.entry.cargo.invocation.payload next c.in-Err.halt failed.leads (failed.serving _ p.0 p.1) failed.rest.1 c.in-Err.ensures.kept c.in-Err.ensures.halted
