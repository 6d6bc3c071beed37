use Rattle.std.proofs.Common.{◌++◌, List, ap, sym, ◌∙◌}
use Rattle.xa_lock.specs.declared.makers.Made.{Made}
use Rattle.xa_lock.specs.declared.pass.Page.{Page}
use Rattle.xa_lock.specs.Makers.{KeptNotes, made_by}
use Rattle.xa_worker.specs.Entering.{stamped_with}
use Rattle.xa_worker.proofs.Growing.{all_of_maker}
use Rattle.xa_worker.proofs.entering.note_under.Goals as goal

pub leave-requires-clause-grew : goal.leave-requires-clause-grew
leave-requires-clause-grew g c =
    let noted = stamped_with c.note_one-noted.result c.args.event in
    let more : List Made = made_by c.args.maker noted in
    let is_maker = sym c.requires.maker ∙ ap (λ (p : Page Made). p.maker) (sym c.enter-held.ensures.found) in (
      more,
      c.note_one-noted.ensures.entries ∙ (ap (λ (k : KeptNotes). k.entries ++ more) c.value.ensures.value ∙ ap (λ (p : Page Made). p.seen ++ more) (sym c.enter-held.ensures.found)),
      all_of_maker c.args.maker _ noted is_maker,
    )
