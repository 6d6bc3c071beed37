use Rattle.std.proofs.Common.{◌≡◌, ◌+◌, ◌^◌, ◌≤◌, max, subst}
use Rattle.std.specs.Prelude.{MatchResult}
use Rattle.xa_types.specs.declared.stamp.Stamp.{Stamp}
use Rattle.xa_types.specs.declared.stamp.Worn.{Worn}
use Rattle.xa_stamp.specs.Home.{last_stamp}
use Rattle.xa_lock.specs.Makers.{KeptNotes, noted_in}
use Rattle.xa_lock.proofs.Growth.{noted_in-made}
use Rattle.xa_lock.proofs.homes.Kept.next_stamp.Goals as goal

pub returns : goal.returns
returns c =
    let P : KeptNotes → Type 0 = λ kept. MatchResult c.next_stamp.result
    (λ (stamp : Stamp). (stamp.0 ≡ max c.args.seen.0 (last_stamp kept.first (noted_in kept.entries)) + 1) × (stamp.0 ≤ 2 ^ 63))
    (λ (worn : Worn). (worn.0.0 ≡ 2 ^ 63) × (max c.args.seen.0 (last_stamp kept.first (noted_in kept.entries)) ≡ 2 ^ 63)) in
    subst P c.self.view_is (rw (noted_in-made c.self.inside.makers.all c.self.inside.home.entries c.self.invariant) c.next_stamp.ensures)
