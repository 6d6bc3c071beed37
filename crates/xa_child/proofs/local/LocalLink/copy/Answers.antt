use Rattle.std.proofs.Common.{ap, ◌∙◌, ◌++◌, take, rules}
use Rattle.xa_child.specs.Local.{LocalTold}
use Rattle.xa_child.proofs.LocalSteps.{gave_more}
use Rattle.xa_child.proofs.local.LocalLink.copy.Goals as goal

pub returns-clause-gave : goal.returns-clause-gave
returns-clause-gave c =
    gave_more c.self.inside.at c.give-n.result c.self.inside.given.items c.give-n.new.into (search (rules, c.give-n.ensures, c.as_slice.ensures)) ∙ ap (λ (t : LocalTold). t.gave ++ take c.give-n.result c.give-n.new.into) c.self.view_is
