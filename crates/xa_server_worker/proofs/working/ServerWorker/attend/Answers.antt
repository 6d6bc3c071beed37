use Rattle.std.proofs.Common.{subst}
use Rattle.xa_server_worker.specs.Standing.{AttendedAs}
use Rattle.xa_server_worker.proofs.Lasting.{goes_trans}
use Rattle.xa_server_worker.proofs.working.ServerWorker.attend.Goals as goal

pub returns-in_err-next-clause-goes : goal.returns-in_err-next-clause-goes
returns-in_err-next-clause-goes g c =
    goes_trans c.args.self.now c.loop.self c.attend_once.new.self c.loop.invariant.goes c.attend_once.ensures.goes

pub loop-preserved : goal.loop-preserved
loop-preserved g c =
    let attended = c.in_ok-next.ensures.attended in
    record {
      goes = goes_trans c.args.self.now c.loop.self c.attend_once.new.self c.loop.invariant.goes c.attend_once.ensures.goes;
      served = (attended.0, subst (λ a. AttendedAs c.args.monitor.now.domain.now g.T.Starter.shows attended.0 a c.attend_once.new.self) c.in-Going.is attended.1);
    }

pub returns-in_err-died-in-Died-clause-goes : goal.returns-in_err-died-in-Died-clause-goes
returns-in_err-died-in-Died-clause-goes g c =
    let heard = c.attend_once.new.self in
    goes_trans c.args.self.now heard c.died.new.self (goes_trans c.args.self.now c.loop.self heard c.loop.invariant.goes c.attend_once.ensures.goes) c.died.ensures.goes

pub returns-in-Died-clause-goes : goal.returns-in-Died-clause-goes
returns-in-Died-clause-goes g c =
    let heard = c.attend_once.new.self in
    goes_trans c.args.self.now heard c.died.new.self (goes_trans c.args.self.now c.loop.self heard c.loop.invariant.goes c.attend_once.ensures.goes) c.died.ensures.goes

pub returns-in-Done-clause-goes : goal.returns-in-Done-clause-goes
returns-in-Done-clause-goes g c =
    let heard = c.attend_once.new.self in
    goes_trans c.args.self.now heard c.finished.new.self (goes_trans c.args.self.now c.loop.self heard c.loop.invariant.goes c.attend_once.ensures.goes) c.finished.ensures.goes
