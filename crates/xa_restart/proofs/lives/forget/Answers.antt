use Rattle.std.proofs.Common.{rules}
use Rattle.std.proofs.lemmas.Fn.{filter_same}
use Rattle.xa_restart.specs.Within.{is_within}
use Rattle.xa_restart.proofs.lives.forget.Goals as goal

pub returns-clause-kept : goal.returns-clause-kept
returns-clause-kept c = filter_same _ (is_within c.args.grace c.args.now) _ (λ x b f called. search rules) _ _ c.retain.ensures.filtered
