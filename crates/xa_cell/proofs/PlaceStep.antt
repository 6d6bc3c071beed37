-- place: the seat with the ticket loads the word, and from then on it has the slot.
use Rattle.std.proofs.Common.{◌≡◌, ℕ, ◌+◌, ◌<◌, ◌≤◌, List, [], ◌∷◌, length, set, sym, refl, ap, ◌∙◌, arith, Some, None, inr}
use mathlib.Core.Option.{none, some}
use Rattle.atomic_table.specs.Table.{step, takes as takes_slot, Allows}
use Rattle.xa_cell.specs.declared.view.Opening.{Opening}
use Rattle.xa_cell.specs.declared.view.Part.{Part}
use Rattle.xa_cell.specs.declared.view.View.{View}
use Rattle.xa_cell.specs.Views.{at}
use Rattle.xa_cell.specs.Dealing.{cells_in}
use Rattle.xa_cell.specs.Rule.{total, word, held, Cell, Ruled}
use Rattle.xa_cell.specs.Steps.{placed, places}
use Rattle.xa_cell.proofs.Lists.{total_set, total_zero}
use Rattle.xa_cell.proofs.OneCell.{SlotOf, HomeOf, Spot, fits, ticket_names, ticket_is, at_home, others_free, no_taking, resided, quiet, same_waits, keeps_filled}
use Rattle.xa_cell.proofs.Lifting.{MineOf, Site, at_seat, spot, out}

module _ {A : Type 0} where
  place_cell : (z : Spot A) (t : Opening) → z.p.tickets ≡ t ∷ [] → z.p.filling ≡ 0
      → (op : ℕ) × (op ≤ 1) × (z.w ≡ word t.number op 1) × (z.home ≡ some (some None)) × ((home' : HomeOf A) → Cell z.w home' (set z.ps z.id (record z.p { filling = 1 })))
  place_cell z t is idle = let c = z.c in let p = z.p in let tn = ticket_names z t is in let own = tn.0 in let un = ticket_is z own in let ft = fits z in let p' : Part A = record p { filling = 1 } in
      let x = at_home z (others_free z own idle) in let nt = no_taking z.ps c.n c.open_ c.unspent c.q p un c.opened ft in
      let lt = ft.late in
      let one_held : total held (set z.ps z.id p') ≡ 1 = (let a = total_set held z.ps z.id p p' z.here in let y = total_zero held z.ps (others_free z own idle) in omega arith) in (
        c.open_,
        c.opened,
        c.word_is ∙ (λ i. word (sym (ap (λ (o : Opening). o.number) tn.1) i) c.open_ (un i)),
        x.1 ∙ ap (λ (y : SlotOf A). let h : HomeOf A = some (some y) in h) (x.2.pending un),
        λ home'. quiet z p' home' refl refl refl refl refl (same_waits z p' refl refl refl) (record {
          side = resided c.n c.open_ c.unspent c.q p p.tickets 1 p.late p.taken p.filled ft.side;
          tickets = ft.tickets;
          filling = own;
          late = (omega arith);
          cancelled = ft.cancelled;
          given_up = ft.given_up;
          dropped = ft.dropped;
          filled = ft.filled;
          taken = keeps_filled z p' refl;
        }) (inr one_held),
      )

  places_keep : (limits : List ℕ) (slots id k : ℕ) (v : View A) (h : List (ℕ × SlotOf A)) (t : Opening) → k < cells_in limits → k < length v.parts → 0 < length v.callers → (at k v).tickets ≡ t ∷ [] → (at k v).filling ≡ 0
      → Allows (Ruled limits) slots id (v, h) k (λ n. n) (places (step slots k 0 0 none) (v, h))
  places_keep limits slots id k v h t inside long of_caller is idle s r deep here small =
      let z : Site A = record { limits = limits; id = id; k = k; v = v; inside = inside; long = long; s = s; r = r; here = here } in
      let l = place_cell (spot z) t is idle in (
        placed k v,
        takes_slot k None,
        l.3,
        out z (record (at k v) { filling = 1 }) v.deeds (λ n. absurd (omega arith)) l.4,
        (refl, λ o is'. let same : t ≡ o = cc in (l.0, l.1, l.2 ∙ (λ i. word (same i).number l.0 1))),
      )

  pub places_at : (limits : List ℕ) (slots id k : ℕ) (m : MineOf A) (v : View A) (t : Opening) (h : List (ℕ × SlotOf A)) → m ≡ (v, h) → k < cells_in limits → k < length v.parts → 0 < length v.callers → (at k v).tickets ≡ t ∷ [] → (at k v).filling ≡ 0
      → Allows (Ruled limits) slots id m k (λ n. n) (places (step slots k 0 0 none) m)
  places_at limits slots id k m v t h e inside long of_caller is idle = at_seat limits slots id k (λ n. n) (λ (z : MineOf A). places (step slots k 0 0 none) z) m (v, h) e (places_keep limits slots id k v h t inside long of_caller is idle)
