use Rattle.std.proofs.Common.{◌<◌, subst, sym}
use Rattle.xa_stamp.specs.Home.{Notes, last_stamp}
use Rattle.xa_stamp.proofs.Stamps.{Rises-push}
use Rattle.xa_stamp.proofs.home.Home.add.Goals as goal

pub invariant_of-self : goal.invariant_of-self
invariant_of-self c =
    let later = subst (λ (n : Notes). last_stamp n.first n.entries < c.args.stamp.0) (sym c.self.view_is) c.requires.later in
    rw c.push_reserved.ensures.items (Rises-push _ _ _ c.self.invariant later c.requires.bound)
