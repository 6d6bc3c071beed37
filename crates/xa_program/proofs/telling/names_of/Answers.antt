use Rattle.std.proofs.Common.{◌∙◌, ap}
use Rattle.std.proofs.lemmas.List.{take_all}
use Rattle.xa_program.specs.Headline.{names_of}
use Rattle.xa_program.proofs.Failing.{none_made}
use Rattle.xa_program.proofs.Given.{names_more}
use Rattle.xa_program.proofs.telling.names_of.Goals as goal

pub loop-client-init : goal.loop-client-init
loop-client-init c = c.new-names.ensures.items

pub loop-client-preserved : goal.loop-client-preserved
loop-client-preserved c =
    c.in_ok-push.ensures.items ∙ names_more c.args.clients.now c.loop-client.client-index c.client-item.result c.loop-client.names.items c.loop-client-test.true c.client-item.is c.loop-client.invariant

pub returns : goal.returns
returns c = c.loop-client.invariant ∙ ap names_of (take_all c.loop-client.client-index c.args.clients.now c.loop-client-test.false)

pub returns-in_err-push : goal.returns-in_err-push
returns-in_err-push c = none_made c.from_residual.result _ _ c.from_residual.ensures.1
