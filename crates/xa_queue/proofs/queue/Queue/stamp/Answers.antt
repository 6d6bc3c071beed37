use Rattle.std.proofs.Common.{◌≡◌, subst}
use Rattle.xa_stamp.specs.Home.{last_stamp}
use Rattle.xa_stamp.proofs.Stamps.{last_stamp-read, Rises-last}
use Rattle.xa_lock.specs.Makers.{noted_in}
use Rattle.xa_queue.specs.Queue.{QueueState}
use Rattle.xa_queue.proofs.queue.Queue.stamp.Goals as goal

pub returns-in-len1-up-clause-value : goal.returns-in-len1-up-clause-value
returns-in-len1-up-clause-value g c =
    let P : QueueState g.row.C.Denot → Type 0 = λ queue. c.newest-item.result.stamp.0 ≡ last_stamp (record { 0 = 0 }) (noted_in queue.entries) in
    subst P c.self.view_is (last_stamp-read (record { 0 = 0 }) _ _ _ c.entries.ensures.value c.in-len1-up.len_at_least c.newest-item.is)

pub returns-in-len1-up-clause-bound : goal.returns-in-len1-up-clause-bound
returns-in-len1-up-clause-bound g c =
    let is = last_stamp-read c.self.inside.kept.first _ _ _ c.entries.ensures.value c.in-len1-up.len_at_least c.newest-item.is in
    rw is (Rises-last _ _ c.entries.ensures.rises)
