use Rattle.std.proofs.Common.{refl, sym, ap, subst}
use Rattle.std.specs.Prelude.{IfOk}
use Rattle.xa_server.specs.xa_caller.Caller.{CallerState}
use Rattle.xa_desk.specs.Desks.{Leads}
use Rattle.xa_desk.specs.Serving.{IsServing, IsToTell}
use Rattle.xa_desk.proofs.Dying.{died_leads, died_told, died_serving}
use Rattle.xa_desk.proofs.desk.Desk.die.Goals as goal

pub returns : goal.returns
returns c =
    let d = c.args.domain.now in
    let desk = c.args.self.now in
    let slot = c.args.slot.now in
    let work = c.died.new.caller.work in
    let died = c.died.ensures in
    let ask = c.requires.domain in
    record {
      leads = subst (λ (caller : CallerState). Leads d desk (record desk { caller = caller })) (sym died.rest) (died_leads d ask.0 desk slot c.args.cause ask.2 ask.3 c.requires.death c.died.new.self work c.died.result died.ok died.worn);
      serving = λ queue serving. subst (λ (caller : CallerState). IsServing d queue c.died.new.self (record desk { caller = caller })) (sym died.rest)
          (died_serving d queue desk slot c.args.cause ask.2 serving c.requires.death c.died.new.self work c.died.result died.stands died.ok died.worn);
      ok = died.ok;
      told = subst (λ (caller : CallerState). IfOk c.died.result (IsToTell d (record desk { caller = caller }))) (sym died.rest) (died_told d ask.0 desk slot c.args.cause ask.2 ask.3 c.requires.death c.died.new.self work c.died.result died.ok);
      rest = (refl, ap (λ (caller : CallerState). caller.seat) died.rest);
      worn = died.worn;
    }
