use Rattle.std.proofs.Common.{sym, ◌∙◌, subst}
use Rattle.std.specs.Prelude.{Option, IfSome}
use Rattle.xa_server.specs.xa_types.declared.fault.Fault.{Fault}
use Rattle.xa_server.specs.xa_events.declared.event.Evidence.{Evidence}
use Rattle.xa_desk.specs.Advertising.{ChangeRefusedBy}
use Rattle.xa_desk.proofs.desk.Desk.told_refused.Goals as goal

pub returns-in_ok-refuse_change-in-Some-clause-fits : goal.returns-in_ok-refuse_change-in-Some-clause-fits
returns-in_ok-refuse_change-in-Some-clause-fits c change so =
    c.refuse_change.ensures.fits change (subst (λ (o : Option (Fault × Evidence)). IfSome o (λ told. ChangeRefusedBy c.args.domain.now c.args.self.now change told.0 told.1)) (sym c.refusal_by.ensures ∙ c.in-Some.is) so)
