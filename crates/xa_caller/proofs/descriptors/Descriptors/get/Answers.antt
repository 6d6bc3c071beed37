use Rattle.std.proofs.Common.{◌≡◌, ◌<◌, Some, length, sym, subst}
use Rattle.std.specs.Prelude.{slice_get}
use Rattle.xa_caller.specs.Descriptors.{InOrder}
use Rattle.xa_caller.proofs.Standing.{found-at}
use Rattle.xa_caller.proofs.descriptors.Descriptors.get.Goals as goal

pub returns : goal.returns
returns c =
    subst (λ (d : InOrder). slice_get d.all c.args.place ≡ Some c.index.result.now) c.self.view_is
    (found-at c.self.inside.all.items c.args.place c.index.result.now (subst (λ (d : InOrder). c.args.place < length d.all) (sym c.self.view_is) c.requires) c.index.ensures)
