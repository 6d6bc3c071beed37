-- The owner's place is shut, and the ticket stays as it is.
use Rattle.std.proofs.Common.{◌≡◌, ℕ, ◌+◌, ◌≤◌, List, [], length, set, refl, arith, inl, inr}
use Rattle.std.proofs.lemmas.List.Elements.{All-nil, All-weaker}
use Rattle.std.specs.List.{All}
use Rattle.xa_types.specs.declared.ids.RequestId.{RequestId}
use Rattle.xa_cell.specs.declared.view.Fill.{Fill}
use Rattle.xa_cell.specs.declared.view.Part.{Part}
use Rattle.xa_cell.specs.Counts.{times, among}
use Rattle.xa_cell.specs.Rule.{total, word, owns, Slotted, Waits, Cell}
use Rattle.xa_cell.proofs.OneCell.{HomeOf, Spot, fits, owner, not_owner, changed, keeps_filled}

module _ {A : Type 0} where
  pub shut_cell : (z : Spot A) (settled taking un : ℕ) (gs : List ℕ) (home' : HomeOf A) → let p' : Part A = record z.p { asked = []; settled = settled; taking = taking; given_up = gs } in let after : List (Part A) = set z.ps z.id p' in
      owns z.p ≡ 1 → z.c.unspent ≡ un → settled + un ≤ 1 → taking ≡ 0 → All (λ g. g + 0 ≤ z.c.n) gs
      → ((m : ℕ) → total (λ (y : Part A). times m y.filled) after + total (λ (y : Part A). among m y.given_up) after ≤ 1)
      → (un ≡ 1 → total (λ (y : Part A). among z.c.n y.given_up) after ≡ 1) → ((m : ℕ) → total (λ (y : Part A). among m y.dropped) after ≤ total (λ (y : Part A). among m y.given_up) after)
      → Waits after z.c.n 0 un → Slotted home' after z.c.n 0 un z.c.q → Cell (word z.p.count 0 un) home' after
  shut_cell z settled taking un gs home' own is le idle gs_fit once_ can drop_ waiting slot =
      let c = z.c in let p = z.p in let o = owner z own in let ft = fits z in let p' : Part A = record p { asked = []; settled = settled; taking = taking; given_up = gs } in let few = c.few in
      let f1 = ft.filling in let f2 = ft.late in let lt = ft.cancelled in
      changed z p' (word p.count 0 un) home' c.n 0 un c.q (omega arith) (omega arith) (λ i. word (o.count i) 0 un) refl (omega arith) (λ e h. h) once_ (omega arith) (omega arith) (λ _. can) drop_ (not_owner z own) (λ j r ne e. inr (refl, refl, omega arith)) waiting (record {
        side = inl (record { one = o.one; count = o.count; asked = refl; request = All-nil (λ (y : RequestId). y ≡ c.q); settled = le; taking = (omega arith); alone = (omega arith) });
        tickets = ft.tickets;
        filling = ft.filling;
        late = ft.late;
        cancelled = (omega arith);
        given_up = gs_fit;
        dropped = All-weaker (λ (d : ℕ). d + c.unspent ≤ c.n) (λ (d : ℕ). d + un ≤ c.n) (λ d h. omega arith) p.dropped ft.dropped;
        filled = All-weaker (λ (e : Fill A). e.opening.number + c.unspent ≤ c.n) (λ (e : Fill A). e.opening.number + un ≤ c.n) (λ e h. omega arith) p.filled ft.filled;
        taken = keeps_filled z p' refl;
      }) slot
