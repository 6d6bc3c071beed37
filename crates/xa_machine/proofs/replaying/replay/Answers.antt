use Rattle.std.proofs.Common.{ℕ, ◌+◌, take, sym, subst, arith}
use Rattle.xa_events.specs.State.{opening}
use Rattle.xa_events.specs.Run.{Run}
use Rattle.xa_machine.specs.Runs.{IsRefusedAt}
use Rattle.xa_machine.proofs.Running.{run_more, refused_here}
use Rattle.xa_machine.proofs.replaying.replay.Goals as goal

pub returns-in-Err-Refused-clause-at : goal.returns-in-Err-Refused-clause-at
returns-in-Err-Refused-clause-at c k same =
    subst (λ (n : ℕ). IsRefusedAt (opening c.args.setup.now c.args.clients) c.args.events.now n) (cc same)
    (refused_here c.args.events.now c.loop-i.i c.index-events-i.result _ c.loop-i.machine (omega arith) c.index-events-i.is c.loop-i.invariant (c.in-Err-Refused.ensures.no.0 c.in-Err-Refused.field-0-is))

pub loop-i-preserved : goal.loop-i-preserved
loop-i-preserved c = subst (λ s. Run (opening c.args.setup.now c.args.clients) (take (c.loop-i.i + 1) c.args.events.now) s) (sym c.in-Ok-step.ensures.yes.1)
    (run_more c.args.events.now c.loop-i.i c.index-events-i.result _ c.loop-i.machine (omega arith) c.index-events-i.is c.loop-i.invariant c.in-Ok-step.ensures.yes.0)
