use Rattle.std.proofs.Common.{sym, subst}
use Rattle.std.specs.Prelude.{IfOk}
use Rattle.xa_server.specs.xa_caller.Caller.{CallerState}
use Rattle.xa_desk.specs.Desks.{Leads}
use Rattle.xa_desk.specs.Serving.{IsToTell}
use Rattle.xa_desk.proofs.Ending.{finish_leads, finish_told}
use Rattle.xa_desk.proofs.desk.Desk.finish.Goals as goal

pub returns-clause-leads : goal.returns-clause-leads
returns-clause-leads c =
    let d = c.args.domain.now in
    let desk = c.args.self.now in
    let ask = c.requires.domain in
    subst (λ (caller : CallerState). Leads d desk (record desk { caller = caller })) (sym c.finish_return.ensures.rest)
    (finish_leads d ask.0 desk c.args.slot.now c.finish_return.new.self c.args.back.value _ c.args.back.payload c.finish_return.new.caller.work ask.2 ask.3 c.finish_return.result c.finish_return.ensures.ok c.finish_return.ensures.halted)

pub returns-clause-told : goal.returns-clause-told
returns-clause-told c =
    let d = c.args.domain.now in
    let desk = c.args.self.now in
    let ask = c.requires.domain in
    subst (λ (caller : CallerState). IfOk c.finish_return.result (IsToTell d (record desk { caller = caller }))) (sym c.finish_return.ensures.rest)
    (finish_told d ask.0 desk c.args.slot.now c.finish_return.new.self c.args.back.value _ c.args.back.payload c.finish_return.new.caller.work ask.2 ask.3 c.finish_return.result c.finish_return.ensures.ok)
