use Rattle.std.proofs.Common.{sym, subst}
use Rattle.xa_server.specs.xa_caller.Caller.{CallerState}
use Rattle.xa_desk.specs.Desks.{Leads}
use Rattle.xa_desk.proofs.Stopping.{stopped_leads}
use Rattle.xa_desk.proofs.desk.Desk.stop.Goals as goal

pub returns-clause-leads : goal.returns-clause-leads
returns-clause-leads c =
    let d = c.args.domain.now in
    let desk = c.args.self.now in
    let ask = c.requires.domain in
    subst (λ (caller : CallerState). Leads d desk (record desk { caller = caller })) (sym c.stopped.ensures.rest)
    (stopped_leads d ask.0 desk c.args.slot.now c.stopped.new.self c.args.cause c.stopped.new.caller.work c.stopped.result ask.2 ask.3 ask.4 c.stopped.ensures.ok c.stopped.ensures.kept)
