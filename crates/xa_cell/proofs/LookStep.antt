-- look: the owner loads the word.
use Rattle.std.proofs.Common.{◌≡◌, ℕ, ◌+◌, ◌-◌, ◌<◌, ◌≤◌, List, length, set, sym, refl, ◌∙◌, arith, inl}
use Rattle.atomic_table.specs.Table.{step, keeps, Allows}
use mathlib.Core.Option.{none}
use Rattle.xa_cell.specs.declared.view.Part.{Part}
use Rattle.xa_cell.specs.declared.view.View.{View}
use Rattle.xa_cell.specs.Views.{at}
use Rattle.xa_cell.specs.Changes.{looked}
use Rattle.xa_cell.specs.Dealing.{cells_in}
use Rattle.xa_cell.specs.Rule.{word, owns, Cell, Ruled}
use Rattle.xa_cell.specs.Steps.{looks}
use Rattle.xa_cell.proofs.OneCell.{SlotOf, Spot, fits, owner, slot_same, quiet, same_waits, keeps_filled}
use Rattle.xa_cell.proofs.Lifting.{Site, word_at, spot, kept}

module _ {A : Type 0} where
  look_cell : (z : Spot A) → owns z.p ≡ 1
      → (un : ℕ) × (z.p.settled + un ≤ 1) × (length z.p.asked ≤ 1) × (z.w ≡ word z.p.count (length z.p.asked) un) × Cell z.w z.home (set z.ps z.id (record z.p { settled = 1 - un }))
  look_cell z own = let o = owner z own in let c = z.c in let p' : Part A = record z.p { settled = 1 - c.unspent } in let few = c.few in let ft = fits z in (
    c.unspent,
    o.settled,
    (let a = o.asked in let b = c.opened in omega arith),
    c.word_is ∙ (λ i. word (sym o.count i) (sym o.asked i) c.unspent),
    quiet z p' z.home refl refl refl refl refl (same_waits z p' refl refl refl) (record {
      side = inl (record { one = o.one; count = o.count; asked = o.asked; request = o.request; settled = (omega arith); taking = o.taking; alone = o.alone });
      tickets = ft.tickets;
      filling = ft.filling;
      late = ft.late;
      cancelled = ft.cancelled;
      given_up = ft.given_up;
      dropped = ft.dropped;
      filled = ft.filled;
      taken = keeps_filled z p' refl;
    }) (slot_same z p' refl (λ e h. h)),
  )

  pub looks_keep : (limits : List ℕ) (slots id k : ℕ) (v : View A) (h : List (ℕ × SlotOf A)) → k < cells_in limits → k < length v.parts → owns (at k v) ≡ 1
      → Allows (Ruled limits) slots id (v, h) k (λ n. n) (looks (step slots k 0 0 none) (v, h))
  looks_keep limits slots id k v h inside long own s r deep here small =
      let z : Site A = record { limits = limits; id = id; k = k; v = v; inside = inside; long = long; s = s; r = r; here = here } in
      let l = look_cell (spot z) own in
      (looked k l.0 v, keeps, tt, kept z (word_at z) (record (at k v) { settled = 1 - l.0 }) (looked k l.0 v).deeds refl refl refl (λ y. (y.2, y.4)) l.4, (l.0, l.1, l.2, l.3, refl))
