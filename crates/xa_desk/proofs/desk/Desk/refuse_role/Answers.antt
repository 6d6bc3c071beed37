use Rattle.std.proofs.Common.{inl, refl}
use Rattle.xa_server.specs.xa_events.declared.event.Evidence.TheVariants.{Role}
use Rattle.xa_desk.proofs.Refusals.{moves_alone}
use Rattle.xa_desk.proofs.desk.Desk.refuse_role.Goals as goal

pub returns-clause-moves : goal.returns-clause-moves
returns-clause-moves c = moves_alone c.args.domain.now c.args.self.now c.refuse_change.new.self c.refuse_change.ensures.leads c.refuse_change.ensures.rest

pub returns-in_err-refuse_change-clause-moves : goal.returns-in_err-refuse_change-clause-moves
returns-in_err-refuse_change-clause-moves c = moves_alone c.args.domain.now c.args.self.now c.refuse_change.new.self c.refuse_change.ensures.leads c.refuse_change.ensures.rest

pub returns-clause-made : goal.returns-clause-made
returns-clause-made c = (c.args.self.now.caller, inl refl, Role, c.in_ok-refuse_change.field-0, c.in_ok-refuse_change.ensures.refused)
