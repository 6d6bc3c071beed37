use Rattle.std.proofs.Common.{sym, subst}
use Rattle.xa_server.specs.xa_caller.Caller.{CallerState}
use Rattle.xa_desk.specs.Desks.{Leads}
use Rattle.xa_desk.proofs.Starting.{start_leads}
use Rattle.xa_desk.proofs.desk.Desk.start.Goals as goal

pub returns-clause-leads : goal.returns-clause-leads
returns-clause-leads g c =
    let d = c.args.domain.now in
    let desk = c.args.self.now in
    let ask = c.requires.domain in
    subst (λ (caller : CallerState). Leads d desk (record desk { caller = caller })) (sym c.start.ensures.rest)
    (start_leads d ask.0 desk c.args.served.now.slot c.start.new.self.slot c.args.name.now c.args.tick _ _ c.start.new.caller.work c.start.result ask.2 ask.3 c.requires.may.1 c.start.ensures.tried c.start.ensures.halted)
