use Rattle.std.proofs.Common.{◌≡◌, List, length, subst, sym, ap, ◌∙◌}
use Rattle.std.proofs.lemmas.List.{length-map}
use Rattle.xa_stamp.specs.declared.home.Stamped.{Stamped}
use Rattle.xa_stamp.specs.Home.{Rises}
use Rattle.xa_lock.specs.declared.makers.Made.{Made}
use Rattle.xa_lock.specs.Makers.{KeptNotes, noted_in}
use Rattle.xa_lock.proofs.Growth.{noted_in-made}
use Rattle.xa_lock.proofs.homes.Kept.entries.Goals as goal

pub returns-clause-value : goal.returns-clause-value
returns-clause-value c =
    let P : KeptNotes → Type 0 = λ kept. c.entries.result.now ≡ noted_in kept.entries in
    subst P c.self.view_is (c.entries.ensures.value ∙ sym (noted_in-made c.self.inside.makers.all c.self.inside.home.entries c.self.invariant))

pub returns-clause-count : goal.returns-clause-count
returns-clause-count c =
    let noted : Made → Stamped = λ entry. entry.noted in
    ap length (returns-clause-value c) ∙ length-map c.args.self.now.entries noted

pub returns-clause-rises : goal.returns-clause-rises
returns-clause-rises c =
    let P : KeptNotes → Type 0 = λ kept. Rises kept.first (noted_in kept.entries) in
    subst P c.self.view_is (subst (λ (l : List Stamped). Rises c.self.inside.home.first l) (sym (noted_in-made c.self.inside.makers.all c.self.inside.home.entries c.self.invariant)) c.entries.ensures.rises)
