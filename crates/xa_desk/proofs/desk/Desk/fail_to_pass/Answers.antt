use Rattle.std.proofs.Common.{◌∙◌, subst}
use Rattle.std.specs.Prelude.{IfOk}
use Rattle.xa_server.specs.xa_types.Found.{FoundRows}
use Rattle.xa_server.specs.Forwarding.{Fails}
use Rattle.xa_desk.specs.Passing.{holding}
use Rattle.xa_desk.proofs.Passes.{refused_leads, refused_told}
use Rattle.xa_desk.proofs.desk.Desk.fail_to_pass.Goals as goal

abbrev FailsBy : goal.After-forward_refused → FoundRows → Type 0
FailsBy c found = IfOk c.forward_refused.result (λ closing. Fails found.version closing c.forward_refused.new.self (holding c.args.entry c.args.slot.now) c.forward_refused.new.caller c.args.self.now.caller)

fails : (c : goal.After-forward_refused) → FailsBy c c.args.self.now.reader.found
fails c = subst (FailsBy c) (c.behind-self.view_is ∙ c.found.ensures) c.forward_refused.ensures.ok

pub returns-clause-leads : goal.returns-clause-leads
returns-clause-leads c = refused_leads c.requires.passing.2 c.requires.desk c.forward_refused.new.self c.forward_refused.new.caller c.forward_refused.result (fails c) c.forward_refused.ensures.halted c.forward_refused.ensures.kept

pub returns-clause-told : goal.returns-clause-told
returns-clause-told c = refused_told c.requires.passing.2 c.requires.desk c.forward_refused.new.self c.forward_refused.new.caller c.forward_refused.result (fails c)
