use Rattle.std.proofs.Common.{Option, refl, sym, ◌∙◌, subst, OnOk}
use Rattle.std.specs.Prelude.{IfErr, IfSome}
use Rattle.xa_desk.specs.declared.stopped.Stopped.{Stopped}
use Rattle.xa_desk.specs.Halting.{IsStopAt}
use Rattle.xa_calls.specs.Going.{IsStopped}
use Rattle.xa_calls.proofs.Resting.{same_by}
use Rattle.xa_client_worker.specs.Going.{IsReady}
use Rattle.xa_client_worker.proofs.Ending.{leaves_same, leaves_made, leaves_halted, stopped_still, given_up_fits}
use Rattle.xa_client_worker.proofs.working.leave.Goals as goal

pub returns-in-Ok-clause-ended : goal.returns-in-Ok-clause-ended
returns-in-Ok-clause-ended c =
    let d = c.args.domain.now in
    let desk = c.args.desk in
    let left = c.leave-done.ensures.left in
    let halt = c.leave-done.result.left.halt in
    let ready = subst (λ made. OnOk made (IsReady d desk.caller.op desk)) c.in-Ok.is c.requires.ready in
    record {
      ended = left.0;
      left = left.1;
      leads = left.2;
      fits = left.4;
      same = leaves_same d desk left.0 halt left.3;
      all = λ none. leaves_made d desk left.0 halt ready c.id-itself.ensures.sound (sym c.here_by-stopped.ensures ∙ none) left.5 left.3;
      halts = subst (λ (stopped : Option Stopped). IfSome stopped (IsStopAt left.0)) (sym c.here_by-stopped.ensures) (leaves_halted d desk left.0 halt left.3);
    }

pub returns-in-Err-clause-ended : goal.returns-in-Err-clause-ended
returns-in-Err-clause-ended c =
    let d = c.args.domain.now in
    let desk = c.args.desk in
    let left = c.abandon.ensures.left in
    record {
      ended = left.0;
      left = left.1;
      leads = left.2;
      fits = given_up_fits d desk left.0 left.2 left.3 left.6;
      same = same_by desk left.0 _ left.3 refl refl refl;
      all = λ none. absurd (cc none);
      halts = stopped_still d desk left.0 c.in-Err.stopped left.3 (subst (λ made. IfErr made (IsStopped desk)) c.in-Err.is c.requires.out).1;
    }
