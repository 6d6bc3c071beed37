use Rattle.std.proofs.Common.{◌∙◌, ◌∷◌, ◌++◌, [], List, Option, Some, sym, ap, subst, length}
use Rattle.std.proofs.lemmas.List.{length-map}
use Rattle.atomic_table.specs.Table.{opening}
use Rattle.xa_lock.specs.Known.{known}
use Rattle.xa_lock.specs.Views.{idle, first_pages}
use Rattle.xa_lock.specs.Rule.{Locked}
use Rattle.xa_lock.proofs.Lists.{length-first_pages, first_at}
use Rattle.xa_lock.proofs.Steps.{opens}
use Rattle.xa_lock.proofs.guarded.Guarded.try_new.Goals as goal

pub new-requires : goal.new-requires
new-requires g c =
    let entries = g.T.Chronicle.entries in let maker = g.T.Chronicle.maker in let value = c.args.value in let all = c.args.passes in
    let put = c.push_reserved.ensures.items ∙ ap (λ l. l ++ Some value ∷ []) c.in-Ok-with_capacity.ensures.items in
    let Made : List (Option g.row.T.Denot) × g.row.T.Denot → Type 0 = λ z. Locked entries maker all (opening (0 ∷ []) z.0 (idle (first_pages (entries z.1) 0 all))) in
    subst Made (λ i. (sym put i, sym c.of.ensures i)) (opens entries maker all value c.requires.some c.requires.first)

pub deal-requires-clause-count : goal.deal-requires-clause-count
deal-requires-clause-count g c = (ap (λ m. length m.0.pages) c.in-Ok-new.ensures.ok.4 ∙ length-first_pages _ _ _, c.requires.some)

pub returns-in-Ok-new-clause-count : goal.returns-in-Ok-new-clause-count
returns-in-Ok-new-clause-count g c =
    let dealt = c.deal.ensures.known ∙ ap (λ m. m.0.pages) c.in-Ok-new.ensures.ok.4 in
    (sym (length-map c.deal.new.all.items known) ∙ (ap length dealt ∙ length-first_pages _ _ _), ap (λ k. k.passes) c.in-Ok-new.ensures.ok.5)

pub returns-in-Ok-new-clause-known : goal.returns-in-Ok-new-clause-known
returns-in-Ok-new-clause-known g c =
    let entries = g.T.Chronicle.entries in
    let dealt = c.deal.ensures.known ∙ (ap (λ m. m.0.pages) c.in-Ok-new.ensures.ok.4 ∙ ap (λ v. first_pages (entries v) 0 c.args.passes) c.of.ensures) in
    first_at known (entries c.args.value) c.args.passes c.deal.new.all.items dealt
