use Rattle.std.proofs.Common.{[], ◌∷◌, ◌++◌, take, ap, sym, ◌∙◌, arith}
use Rattle.std.proofs.lemmas.List.{take_more}
use Rattle.xa_types.proofs.setup.copy_entries.Goals as goal

pub loop-entry-preserved : goal.loop-entry-preserved
loop-entry-preserved t c =
    let entries = c.slice-entries.result.now in
    let i = c.loop-entry.entry-index in
    let entry = c.entry-item.result in (
      c.push_reserved.ensures.items
          ∙ (ap (λ front. front ++ c.in_ok-copy.field-0 ∷ []) c.loop-entry.invariant.0
          ∙ (ap (λ last. take i entries ++ last ∷ []) (c.in_ok-copy.ensures ∙ c.entry-item.is)
          ∙ sym (take_more entries i entry (omega arith)))),
      rw c.push_reserved.ensures.capacity c.loop-entry.invariant.1,
    )
