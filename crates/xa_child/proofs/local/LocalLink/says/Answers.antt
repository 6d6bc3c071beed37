use Rattle.std.proofs.Common.{subst, ◌++◌}
use Rattle.xa_child.specs.Local.{LocalTold}
use Rattle.xa_child.specs.LocalHolds.{Says}
use Rattle.xa_child.proofs.LocalSteps.{says_of, says_parts}
use Rattle.xa_child.proofs.local.LocalLink.says.Goals as goal

pub returns : goal.returns
returns c =
    let l = c.self.inside in
    subst (λ (t : LocalTold). Says t.name t.took (t.gave ++ t.left)) c.self.view_is (says_parts l.name l.taken.items l.given.items l.at (says_of l.name l.takes l.serving l.taken.items l.given.items c.self.invariant.holds))
