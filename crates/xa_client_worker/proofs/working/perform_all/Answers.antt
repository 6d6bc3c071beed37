use Rattle.std.proofs.Common.{Bool, true, ℕ, ◌+◌, sym, ap, subst}
use Rattle.std.proofs.lemmas.List.Elements.{All-get_or}
use Rattle.xa_calls.specs.Going.{PerformsBy, IsCall, IsReady as IsReadyAt}
use Rattle.xa_client_worker.proofs.Ending.{through_one, ready_behind}
use Rattle.xa_client_worker.proofs.working.perform_all.Goals as goal

pub perform-requires-clause-kind : goal.perform-requires-clause-kind
perform-requires-clause-kind g c κs within = subst (λ (client : Bool). IsCall client c.op-item.result) (sym c.loop-op.invariant.ready.client) (subst (IsCall true) (sym c.op-item.is) (All-get_or (IsCall true) c.args.ops.now c.loop-op.op-index c.op-item.result c.loop-op-test.true c.requires.calls))

pub returns-in_err-perform-clause-goes : goal.returns-in_err-perform-clause-goes
returns-in_err-perform-clause-goes g c =
    through_one c.args.monitor.now.domain.now c.args.ops.now c.args.desk.now c.loop-op.desk c.perform.new.desk c.loop-op.op-index c.op-item.result c.loop-op-test.true c.op-item.is c.loop-op.invariant.goes
    (subst (λ (n : ℕ). PerformsBy c.args.monitor.now.domain.now (n + 1) c.op-item.result c.loop-op.desk c.perform.new.desk) c.loop-op.invariant.number c.perform.ensures.goes)

pub loop-op-preserved : goal.loop-op-preserved
loop-op-preserved g c = record {
  number = ap (λ (n : ℕ). n + 1) c.loop-op.invariant.number;
  goes = through_one c.args.monitor.now.domain.now c.args.ops.now c.args.desk.now c.loop-op.desk c.perform.new.desk c.loop-op.op-index c.op-item.result c.loop-op-test.true c.op-item.is c.loop-op.invariant.goes
      (subst (λ (n : ℕ). PerformsBy c.args.monitor.now.domain.now (n + 1) c.op-item.result c.loop-op.desk c.perform.new.desk) c.loop-op.invariant.number c.perform.ensures.goes);
  ready = ready_behind c.args.monitor.now.domain.now c.loop-op.op-index (c.loop-op.op-index + 1) c.loop-op.desk c.perform.new.desk c.loop-op.invariant.ready c.perform.ensures.goes.same
      (subst (λ (n : ℕ). IsReadyAt c.args.monitor.now.domain.now (n + 1) c.perform.new.desk) c.loop-op.invariant.number c.in_ok-perform.ensures.made);
}
