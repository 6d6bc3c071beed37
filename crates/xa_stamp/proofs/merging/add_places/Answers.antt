use Rattle.std.proofs.Common.{◌+◌, ◌∙◌, ◌++◌, ◌∷◌, ap, sym, drop, append_assoc}
use Rattle.std.proofs.lemmas.List.{drop_more}
use Rattle.xa_stamp.specs.Merge.{places_in}
use Rattle.xa_stamp.proofs.merging.add_places.Goals as goal

pub loop-index-preserved : goal.loop-index-preserved
loop-index-preserved c =
    let noted = c.index-entries-index.result in
    let index = c.loop-index.index in
    let rest = drop (index + 1) c.args.entries.now in
    let before = c.loop-index.places.items in
    let left = drop_more c.args.entries.now index noted c.loop-index-test.true ∙ ap (λ e. e ∷ rest) (sym c.index-entries-index.is) in
    ap (λ places. places ++ places_in c.args.home (index + 1) rest) c.in_ok-push.ensures.items
    ∙ (append_assoc before _ (places_in c.args.home (index + 1) rest)
    ∙ (ap (λ l. before ++ places_in c.args.home index l) (sym left) ∙ c.loop-index.invariant))
