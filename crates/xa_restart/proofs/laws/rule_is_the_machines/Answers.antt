use Rattle.xa_restart.proofs.Recalling.{rule_is}
use Rattle.xa_restart.proofs.laws.rule_is_the_machines.Goals as goal

pub returns : goal.returns
returns c = rule_is
