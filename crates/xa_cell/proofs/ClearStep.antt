-- clear: the seat that came too late makes CANCELLED to FREE, and the slot is home and empty. Before, it took its answer out of the slot, which no view shows.
use Rattle.std.proofs.Common.{◌≡◌, ◌≢◌, ℕ, ◌+◌, ◌-◌, ◌%◌, ◌^◌, ◌<◌, ◌≤◌, ◌==◌, List, [], ◌∷◌, ◌++◌, length, set, sym, refl, ap, ◌∙◌, subst, arith, Some, None, inl, inr, ⊎_elim, eq-eqb, ne_eqb}
use Rattle.std.proofs.lemmas.List.Elements.{All-nil, All-cons, All-weaker, All-append}
use mathlib.Core.Option.{none, some}
use lib.ListN.{get_elem?}
use Rattle.atomic_table.specs.Table.{step, gives, Allows}
use Rattle.xa_cell.specs.declared.view.Opening.{Opening}
use Rattle.xa_cell.specs.declared.view.Fill.{Fill}
use Rattle.xa_cell.specs.declared.view.Part.{Part}
use Rattle.xa_cell.specs.declared.view.View.{View}
use Rattle.xa_cell.specs.Views.{opening, at}
use Rattle.xa_cell.specs.Counts.{once, among}
use Rattle.xa_cell.specs.Dealing.{cells_in}
use Rattle.xa_cell.specs.Rule.{total, word, held, Owner, Other, Cell, Ruled}
use Rattle.xa_cell.specs.Steps.{cleared, clears}
use Rattle.xa_cell.proofs.Lists.{decided, total_set, total_zero, among_append, among_none}
use Rattle.xa_cell.proofs.OneCell.{SlotOf, HomeOf, Spot, fits, ticket_names, ticket_is, lone_ticket, one_holds, no_taking, changed, same_once, no_waits, keeps_filled}
use Rattle.xa_cell.proofs.Lifting.{MineOf, Site, at_seat, spot, After, back, of_none}

module _ {A : Type 0} where
  clear_cell : (z : Spot A) (t : Opening) (home' : HomeOf A) → z.p.tickets ≡ t ∷ [] → z.p.late ≡ 1 → home' ≡ some (some None)
      → (z.w ≡ word t.number 0 1) × Cell (word t.number 0 0) home' (set z.ps z.id (record z.p { tickets = []; filling = 0; late = 0; dropped = z.p.dropped ++ t.number ∷ [] }))
  clear_cell z t home' is late at' =
      let c = z.c in let p = z.p in let ps = z.ps in let id = z.id in let here = z.here in
      let ft = fits z in let tn = ticket_names z t is in let un = ticket_is z tn.0 in let lt = ft.late in let fl = ft.filling in let one_t = ap length is in let cc' = ft.cancelled in let op : c.open_ ≡ 0 = omega arith in
      let nn : t.number ≡ c.n = ap (λ (o : Opening). o.number) tn.1 in let nt = no_taking ps c.n c.open_ c.unspent c.q p un c.opened ft in
      let p' : Part A = record p { tickets = []; filling = 0; late = 0; dropped = p.dropped ++ t.number ∷ [] } in let all_held = one_holds z (omega arith) in
      let drop_ : (m : ℕ) → total (λ (y : Part A). among m y.dropped) (set ps id p') ≤ total (λ (y : Part A). among m y.given_up) (set ps id p') = λ m. let gb = total_set (λ (y : Part A). among m y.given_up) ps id p p' here in
      let db = total_set (λ (y : Part A). among m y.dropped) ps id p p' here in let ta = among_append m p.dropped (t.number ∷ []) in let old = c.dropped m in
      ⊎_elim (λ (em : m ≡ c.n). let le : once (t.number == m) ≡ 1 = ap once (eq-eqb t.number m (nn ∙ sym em)) in let given : total (λ (y : Part A). among m y.given_up) ps ≡ 1 = ap (λ (i : ℕ). total (λ (y : Part A). among i y.given_up) ps) em ∙ c.cancelled op un in
      let none_dropped : total (λ (y : Part A). among m y.dropped) ps ≡ 0 = total_zero (λ (y : Part A). among m y.dropped) ps (λ j r e. among_none m r.dropped (All-weaker (λ (d : ℕ). d + c.unspent ≤ c.n) (λ (d : ℕ). d + 1 ≤ m) (λ d h. omega arith) r.dropped (c.each j r e).dropped)) in
      let k : total (λ (y : Part A). among m y.dropped) (set ps id p') ≤ total (λ (y : Part A). among m y.given_up) (set ps id p') = omega arith in k)
      (λ (ne : m ≢ c.n). let le : once (t.number == m) ≡ 0 = ap once (ne_eqb t.number m (λ h. ne (sym h ∙ nn))) in let k : total (λ (y : Part A). among m y.dropped) (set ps id p') ≤ total (λ (y : Part A). among m y.given_up) (set ps id p') = omega arith in k) (decided m c.n) in
      let zero_held : total held (set ps id p') ≡ 0 = (let b = total_set held ps id p p' here in omega arith) in (
        c.word_is ∙ (λ i. word (sym nn i) (op i) (un i)),
        changed z p' (word t.number 0 0) home' c.n 0 0 c.q (omega arith) (omega arith) (λ i. word (nn i) 0 0) refl (omega arith) (λ e h. h) (same_once z p' refl refl) (omega arith) (omega arith) (λ a b. absurd (omega arith)) drop_
            (λ j r ne e o. record { one = o.one; count = o.count; asked = o.asked ∙ op; request = o.request; settled = (let y = o.settled in omega arith); taking = (let y = o.taking in omega arith); alone = (let y = o.alone in omega arith) })
            (λ j r ne e. inl (lone_ticket z tn.0 j r ne e)) (no_waits z p' refl refl 0 0 (omega arith) (c.waiting.none_waits (omega arith)))
            (record {
              side = ⊎_elim (λ (o : Owner c.n c.open_ c.unspent c.q p). inl (record { one = o.one; count = o.count; asked = o.asked ∙ op; request = o.request; settled = (let y = o.settled in omega arith); taking = (let y = o.taking in omega arith); alone = (let y = o.alone in omega arith) }))
                  (λ (o : Other p). inr (record { none_ = o.none_; count = o.count; asked = o.asked; settled = o.settled; taking = o.taking })) ft.side;
              tickets = All-nil (λ (y : Opening). y ≡ opening c.n c.q);
              filling = (omega arith);
              late = (omega arith);
              cancelled = (omega arith);
              dropped = All-append (λ (d : ℕ). d + 0 ≤ c.n) p.dropped (t.number ∷ []) (All-weaker (λ (d : ℕ). d + c.unspent ≤ c.n) (λ (d : ℕ). d + 0 ≤ c.n) (λ d h. omega arith) p.dropped ft.dropped) (All-cons (λ (d : ℕ). d + 0 ≤ c.n) t.number [] (omega arith) (All-nil (λ (d : ℕ). d + 0 ≤ c.n)));
              given_up = All-weaker (λ (g : ℕ). g + c.open_ ≤ c.n) (λ (g : ℕ). g + 0 ≤ c.n) (λ g h. omega arith) p.given_up ft.given_up;
              filled = All-weaker (λ (e : Fill A). e.opening.number + c.unspent ≤ c.n) (λ (e : Fill A). e.opening.number + 0 ≤ c.n) (λ e h. omega arith) p.filled ft.filled;
              taken = keeps_filled z p' refl;
            }) (inl (zero_held, (None, at', record { pending = λ _. refl; closed = λ _. refl; filled = λ h k. absurd (omega arith) }))),
      )

  clears_keep : (limits : List ℕ) (slots id k : ℕ) (v : View A) (t : Opening) (f : ℕ → ℕ) (a b : ℕ) → k < cells_in limits → k < length v.parts → f (word t.number 0 1) ≡ word t.number 0 0 → (at k v).tickets ≡ t ∷ [] → (at k v).late ≡ 1
      → Allows (Ruled limits) slots id (v, (k, None) ∷ []) k f (clears (step slots k a b none) (v, (k, None) ∷ []))
  clears_keep limits slots id k v t f a b inside long is_new is late s r deep here small =
      let z : Site A = record { limits = limits; id = id; k = k; v = v; inside = inside; long = long; s = s; r = r; here = here } in
      let was = (clear_cell (spot z) t (some (some None)) is late refl).0 in let cell = λ (h : HomeOf A) (at' : h ≡ some (some None)). (clear_cell (spot z) t h is late at').1 in
      let p' : Part A = record (at k v) { tickets = []; filling = 0; late = 0; dropped = (at k v).dropped ++ t.number ∷ [] } in (
        cleared k t v,
        gives,
        tt,
        subst (λ y. After z y p' v.deeds (set s.homes k (some None))) (sym (ap f was ∙ is_new)) (back z (word t.number 0 0) None p' v.deeds (λ n. let o = of_none z n in (o.0, o.1, (let y = o.2 in omega arith), o.3, o.4)) cell),
        (λ o is'. let same : t ≡ o = cc in ap (λ (y : Opening). let m : MineOf A = (cleared k y v, []) in m) same),
      )

  pub clears_at : (limits : List ℕ) (slots id k : ℕ) (m : MineOf A) (v : View A) (t : Opening) → m ≡ (v, (k, None) ∷ []) → k < cells_in limits → k < length v.parts → (at k v).tickets ≡ t ∷ [] → (at k v).late ≡ 1
      → Allows (Ruled limits) slots id m k (λ n. (n + (2 ^ 64 - 1)) % 2 ^ 64) (clears (step slots k 1 0 none) m)
  clears_at limits slots id k m v t e inside long is late = at_seat limits slots id k (λ n. (n + (2 ^ 64 - 1)) % 2 ^ 64) (λ (z : MineOf A). clears (step slots k 1 0 none) z) m (v, (k, None) ∷ []) e
      (clears_keep limits slots id k v t (λ n. (n + (2 ^ 64 - 1)) % 2 ^ 64) 1 0 inside long (omega arith) is late)
