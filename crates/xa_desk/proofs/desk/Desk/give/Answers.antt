use Rattle.std.proofs.Common.{sym, subst}
use Rattle.xa_server.specs.xa_caller.Caller.{CallerState}
use Rattle.xa_desk.specs.Desks.{Leads}
use Rattle.xa_desk.proofs.Telling.{give_leads}
use Rattle.xa_desk.proofs.desk.Desk.give.Goals as goal

pub returns-clause-leads : goal.returns-clause-leads
returns-clause-leads c =
    let desk = c.args.self.now in
    subst (λ (caller : CallerState). Leads c.args.domain.now desk (record desk { caller = caller })) (sym c.give.ensures.caller)
    (give_leads c.args.domain.now desk c.args.closing c.give.result c.give.new.caller.seat c.requires.desk c.requires.told c.give.ensures.cells.0 c.give.ensures.given)
