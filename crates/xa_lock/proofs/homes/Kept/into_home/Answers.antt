use Rattle.std.proofs.Common.{◌≡◌, subst, sym}
use Rattle.xa_lock.specs.Makers.{KeptNotes, noted_in}
use Rattle.xa_lock.proofs.Growth.{noted_in-made}
use Rattle.xa_lock.proofs.homes.Kept.into_home.Goals as goal

pub returns-clause-entries : goal.returns-clause-entries
returns-clause-entries c =
    let P : KeptNotes → Type 0 = λ kept. c.self.inside.home.entries ≡ noted_in kept.entries in
    subst P c.self.view_is (sym (noted_in-made c.self.inside.makers.all c.self.inside.home.entries c.self.invariant))
