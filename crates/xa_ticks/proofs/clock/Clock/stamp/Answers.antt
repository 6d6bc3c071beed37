use Rattle.std.proofs.Common.{◌≡◌, subst}
use Rattle.xa_stamp.specs.Home.{last_stamp}
use Rattle.xa_stamp.proofs.Stamps.{last_stamp-read, Rises-last}
use Rattle.xa_ticks.specs.Clock.{ClockState}
use Rattle.xa_ticks.proofs.clock.Clock.stamp.Goals as goal

pub returns-in-len1-up-clause-value : goal.returns-in-len1-up-clause-value
returns-in-len1-up-clause-value c =
    let P : ClockState → Type 0 = λ clock. c.newest-item.result.stamp.0 ≡ last_stamp (record { 0 = 0 }) clock.entries in
    subst P c.self.view_is (last_stamp-read (record { 0 = 0 }) _ _ _ c.entries.ensures.value c.in-len1-up.len_at_least c.newest-item.is)

pub returns-in-len1-up-clause-bound : goal.returns-in-len1-up-clause-bound
returns-in-len1-up-clause-bound c =
    let is = last_stamp-read c.self.inside.home.first _ _ _ c.entries.ensures.value c.in-len1-up.len_at_least c.newest-item.is in
    rw is (Rises-last _ _ c.entries.ensures.rises)
