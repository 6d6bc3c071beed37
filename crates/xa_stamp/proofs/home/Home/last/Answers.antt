use Rattle.std.proofs.Common.{◌≡◌, subst}
use Rattle.xa_stamp.specs.Home.{Notes, last_stamp}
use Rattle.xa_stamp.proofs.Stamps.{last_stamp-read, Rises-last}
use Rattle.xa_stamp.proofs.home.Home.last.Goals as goal

pub returns-in-len1-up-clause-value : goal.returns-in-len1-up-clause-value
returns-in-len1-up-clause-value c =
    let P : Notes → Type 0 = λ notes. c.newest-item.result.stamp.0 ≡ last_stamp notes.first notes.entries in
    subst P c.self.view_is (last_stamp-read c.self.inside.first _ _ _ c.as_slice.ensures.value c.in-len1-up.len_at_least c.newest-item.is)

pub returns-in-len1-up-clause-bound : goal.returns-in-len1-up-clause-bound
returns-in-len1-up-clause-bound c =
    let is = last_stamp-read c.self.inside.first _ _ _ c.as_slice.ensures.value c.in-len1-up.len_at_least c.newest-item.is in
    rw is (Rises-last _ _ c.self.invariant)
