use Rattle.std.proofs.Common.{◌≡◌, ◌<◌, ◌++◌, ◌∷◌, [], subst, sym}
use Rattle.xa_stamp.specs.declared.home.Stamped.{Stamped}
use Rattle.xa_stamp.specs.Home.{last_stamp}
use Rattle.xa_lock.specs.Makers.{KeptNotes, noted_in, made, made_by}
use Rattle.xa_lock.proofs.Growth.{noted_in-made, made-append, all_made_by}
use Rattle.xa_lock.proofs.homes.Kept.add.Goals as goal

pub add-requires-clause-later : goal.add-requires-clause-later
add-requires-clause-later c =
    let P : KeptNotes → Type 0 = λ kept. last_stamp kept.first (noted_in kept.entries) < c.args.stamp.0 in
    rw (← noted_in-made c.self.inside.makers.all c.self.inside.home.entries c.self.invariant) (subst P (sym c.self.view_is) c.requires.later)

pub returns-clause-entries : goal.returns-clause-entries
returns-clause-entries c =
    let noted : Stamped = record { stamp = c.args.stamp; event = c.args.event } in
    let P : KeptNotes → Type 0 = λ kept. made c.add-2.new.self.all c.add.new.self.entries ≡ kept.entries ++ made_by c.args.maker (noted ∷ []) in
    subst P c.self.view_is (rw (c.add-2.ensures.all, c.add.ensures.entries) (made-append c.args.maker c.self.inside.makers.all c.self.inside.home.entries (noted ∷ []) c.self.invariant))

pub returns-clause-grew : goal.returns-clause-grew
returns-clause-grew c =
    let noted : Stamped = record { stamp = c.args.stamp; event = c.args.event } in
    (made_by c.args.maker (noted ∷ []), returns-clause-entries c, all_made_by c.args.maker (noted ∷ []))
