use Rattle.std.proofs.Common.{sym, ◌∙◌}
use Rattle.xa_config.proofs.Reading.{many_told, few_told}
use Rattle.xa_config.proofs.configuration.check_whole.Goals as goal

pub returns-then-not-has_few_rows : goal.returns-then-not-has_few_rows
returns-then-not-has_few_rows c =
    many_told c.args.servers.now c.args.services.now c.args.queues.now _ (sym c.has_few_rows.ensures ∙ c.if-not-has_few_rows.true) c.refuse.ensures

pub returns : goal.returns
returns c =
    few_told c.args.servers.now c.args.services.now c.args.queues.now c.check_served.result (sym c.has_few_rows.ensures ∙ c.if-not-has_few_rows.false)
    c.check_served.ensures
