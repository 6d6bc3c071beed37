use Rattle.std.proofs.Common.{refl, sym, subst}
use Rattle.std.specs.Prelude.{IfSome}
use Rattle.xa_desk.specs.Serving.{IsTaken}
use Rattle.xa_server_worker.proofs.Exchanges.{sent_in, unsent_dies}
use Rattle.xa_server_worker.proofs.working.ServerWorker.exchange.Goals as goal

pub died-requires-clause-may : goal.died-requires-clause-may
died-requires-clause-may g c = unsent_dies c.args.self.now c.args.life c.requires.taken c.invocation-asked.result.now c.invocation-asked.ensures c.in-Err.over c.in-Err.ensures.over

pub attend-requires-clause-served : goal.attend-requires-clause-served
attend-requires-clause-served g c = λ κs within.
    let w = c.args.self.now in
    let has = c.requires.taken in (
      has.t,
      record {
        busy = record {
          is = sent_in w c.args.life has c.invocation-asked.result.now c.invocation-asked.ensures c.in-Ok.life c.in-Ok.ensures.sent;
          taken = subst (λ h. IfSome h (IsTaken c.args.monitor.now.domain.now w.queue.0 has.t w.desk)) (sym has.hand) has.taken;
        };
        acts = refl;
        spent = λ finishing. absurd (cc finishing);
      },
    )
