-- cancel: by one compare and exchange the owner makes PENDING to CANCELLED; or it finds FILLED.
use Rattle.std.proofs.Common.{◌≡◌, ◌≢◌, ℕ, ◌+◌, ◌<◌, ◌≤◌, ◌==◌, List, [], ◌∷◌, ◌++◌, length, get_or, set, sym, refl, ap, ◌∙◌, subst, arith, inl, inr, ⊎_elim, eq-eqb, ne_eqb}
use Rattle.std.proofs.lemmas.List.Elements.{All-nil, All-cons, All-weaker, All-append}
use Rattle.std.specs.List.{All}
use mathlib.Core.Option.{none, some}
use prog.Atomic.{either}
use Rattle.atomic_table.specs.Table.{Act, step, keeps, stepped, Valid, carried_after, Allows}
use Rattle.xa_cell.specs.declared.view.Part.{Part}
use Rattle.xa_cell.specs.declared.view.View.{View}
use Rattle.xa_cell.specs.Views.{at}
use Rattle.xa_cell.specs.Changes.{looked, cancelled}
use Rattle.xa_cell.specs.Counts.{once, times, among}
use Rattle.xa_cell.specs.Dealing.{cells_in}
use Rattle.xa_cell.specs.Rule.{total, word, owns, held, Cell, Ruled}
use Rattle.xa_cell.specs.Steps.{cancels}
use Rattle.xa_cell.proofs.Lists.{decided, total_set, among_append}
use Rattle.xa_cell.proofs.OneCell.{SlotOf, Spot, AtHome, fits, owner, none_filled, none_given, quiet, same_waits, no_waits, slot_same, keeps_filled}
use Rattle.xa_cell.proofs.ShutPlace.{shut_cell}
use Rattle.xa_cell.proofs.Lifting.{StateOf, MineOf, Site, at_seat, word_at, spot, After, kept, becomes, stays}

module _ {A : Type 0} where
  cancel_cell : (z : Spot A) → owns z.p ≡ 1 → length z.p.asked ≡ 1 → z.p.taking ≡ 0 → z.w ≡ word z.p.count 1 1 → Cell (word z.p.count 0 1) z.home (set z.ps z.id (record z.p { asked = []; settled = 0; given_up = z.p.given_up ++ z.p.count ∷ [] }))
  cancel_cell z own open_ idle pend = let c = z.c in let p = z.p in let ps = z.ps in let id = z.id in let here = z.here in let o = owner z own in let a = o.asked in let op : c.open_ ≡ 1 = omega arith in let few = c.few in
      let same : word c.n 1 1 ≡ word c.n c.open_ c.unspent = (λ i. word (sym o.count i) 1 1) ∙ (sym pend ∙ c.word_is) in let un : c.unspent ≡ 1 = omega arith in
      let gs : List ℕ = p.given_up ++ p.count ∷ [] in
      let p' : Part A = record p { asked = []; settled = 0; given_up = gs } in let t = total_set held ps id p p' here in
      let counted = o.count in let ft = fits z in
      let once' : (m : ℕ) → total (λ (y : Part A). times m y.filled) (set ps id p') + total (λ (y : Part A). among m y.given_up) (set ps id p') ≤ 1 = λ m. let gb = total_set (λ (y : Part A). among m y.given_up) ps id p p' here in
      let fb = total_set (λ (y : Part A). times m y.filled) ps id p p' here in let ta = among_append m p.given_up (p.count ∷ []) in let old = c.filled_once m in
      ⊎_elim (λ (em : m ≡ c.n). let y = none_filled z un m em in let x = none_given z op m em in let le : once (p.count == m) ≡ 1 = ap once (eq-eqb p.count m (counted ∙ sym em)) in let k : total (λ (y : Part A). times m y.filled) (set ps id p') + total (λ (y : Part A). among m y.given_up) (set ps id p') ≤ 1 = omega arith in k)
      (λ (ne : m ≢ c.n). let le : once (p.count == m) ≡ 0 = ap once (ne_eqb p.count m (λ h. ne (sym h ∙ counted))) in let k : total (λ (y : Part A). times m y.filled) (set ps id p') + total (λ (y : Part A). among m y.given_up) (set ps id p') ≤ 1 = omega arith in k) (decided m c.n) in
      let gs_fit : All (λ g. g + 0 ≤ c.n) gs = All-append (λ (g : ℕ). g + 0 ≤ c.n) p.given_up (p.count ∷ []) (All-weaker (λ (g : ℕ). g + c.open_ ≤ c.n) (λ (g : ℕ). g + 0 ≤ c.n) (λ g h. omega arith) p.given_up ft.given_up)
      (All-cons (λ (g : ℕ). g + 0 ≤ c.n) p.count [] (omega arith) (All-nil (λ (g : ℕ). g + 0 ≤ c.n))) in
      let can : total (λ (y : Part A). among c.n y.given_up) (set ps id p') ≡ 1 = (let gb = total_set (λ (y : Part A). among c.n y.given_up) ps id p p' here in let ta = among_append c.n p.given_up (p.count ∷ []) in let y = none_given z op c.n refl in
      let le : once (p.count == c.n) ≡ 1 = ap once (eq-eqb p.count c.n counted) in omega arith) in
      let drop_ : (m : ℕ) → total (λ (y : Part A). among m y.dropped) (set ps id p') ≤ total (λ (y : Part A). among m y.given_up) (set ps id p') = λ m. let gb = total_set (λ (y : Part A). among m y.given_up) ps id p p' here in
      let db = total_set (λ (y : Part A). among m y.dropped) ps id p p' here in let ta = among_append m p.given_up (p.count ∷ []) in let old = c.dropped m in omega arith in
      shut_cell z 0 p.taking 1 gs z.home own un (omega arith) idle gs_fit once' (λ _. can) drop_ (no_waits z p' refl refl 0 1 (omega arith) (c.waiting.none_waits (omega arith))) (⊎_elim (λ (h : (total held ps ≡ 0) × AtHome z.home ps c.n c.open_ c.unspent c.q).
      let y = h.0 in inl ((omega arith), (h.1.0, h.1.1, record { pending = λ _. h.1.2.pending un; closed = λ _. h.1.2.pending un; filled = λ x y. absurd (omega arith) })))
      (λ (h : total held ps ≡ 1). inr (omega arith)) c.slot)

  came_cell : (z : Spot A) → owns z.p ≡ 1 → length z.p.asked ≡ 1 → z.w ≢ word z.p.count 1 1 → Cell z.w z.home (set z.ps z.id (record z.p { settled = 1 }))
  came_cell z own open_ ne = let c = z.c in let p = z.p in let o = owner z own in let a = o.asked in let op : c.open_ ≡ 1 = omega arith in let few = c.few in let ft = fits z in
      let not : c.unspent ≢ 1 = λ h. ne (c.word_is ∙ (λ i. word (sym o.count i) (op i) (h i))) in let un : c.unspent ≡ 0 = omega (arith, not) in
      let p' : Part A = record p { settled = 1 } in
      quiet z p' z.home refl refl refl refl refl (same_waits z p' refl refl refl) (record {
        side = inl (record { one = o.one; count = o.count; asked = o.asked; request = o.request; settled = (omega arith); taking = o.taking; alone = o.alone });
        tickets = ft.tickets;
        filling = ft.filling;
        late = ft.late;
        cancelled = ft.cancelled;
        given_up = ft.given_up;
        dropped = ft.dropped;
        filled = ft.filled;
        taken = keeps_filled z p' refl;
      }) (slot_same z p' refl (λ e h. h))

  -- what the step comes to
  abbrev CancelsTo : List ℕ → ℕ → ℕ → ℕ → View A → List (ℕ × SlotOf A) → ℕ → ℕ → StateOf A → Type 0
  CancelsTo limits slots id k v h old new s = (w : View A) × (act : Act (SlotOf A)) × Valid s.homes h act × Ruled limits (stepped s k (either (get_or s.words k 0 == old) new (get_or s.words k 0)) id h w act)
      × cancels (step slots k old new none) (v, h) (get_or s.words k 0) (w, carried_after h act)

  cancels_keep : (limits : List ℕ) (slots id k : ℕ) (v : View A) (h : List (ℕ × SlotOf A)) (old new : ℕ) → k < cells_in limits → k < length v.parts → old ≡ word (at k v).count 1 1 → new ≡ word (at k v).count 0 1 → owns (at k v) ≡ 1 → length (at k v).asked ≡ 1 → (at k v).taking ≡ 0
      → Allows (Ruled limits) slots id (v, h) k (λ n. either (n == old) new n) (cancels (step slots k old new none) (v, h))
  cancels_keep limits slots id k v h old new inside long is_old is_new own open_ idle s r deep here small =
      let z : Site A = record { limits = limits; id = id; k = k; v = v; inside = inside; long = long; s = s; r = r; here = here } in
      ⊎_elim
      (λ (e : word_at z ≡ old). let cell = cancel_cell (spot z) own open_ idle (e ∙ is_old) in
      let p' : Part A = record (at k v) { asked = []; settled = 0; given_up = (at k v).given_up ++ (at k v).count ∷ [] } in
      let goes : CancelsTo limits slots id k v h old new s = (
        cancelled k v,
        keeps,
        tt,
        becomes z (λ y. After z y p' (cancelled k v).deeds s.homes) old new e (subst (λ y. After z y p' (cancelled k v).deeds s.homes) (sym is_new) (kept z (word (at k v).count 0 1) p' (cancelled k v).deeds refl refl refl (λ y. let x = y.3 in absurd (omega arith)) cell)),
        ((λ _. refl), λ ne. absurd (ne e)),
      ) in goes)
      (λ (ne : word_at z ≢ old). let cell = came_cell (spot z) own open_ (λ e. ne (e ∙ sym is_old)) in
      let p' : Part A = record (at k v) { settled = 1 } in
      let goes : CancelsTo limits slots id k v h old new s = (
        looked k 0 v,
        keeps,
        tt,
        stays z (λ y. After z y p' (looked k 0 v).deeds s.homes) old new ne (kept z (word_at z) p' (looked k 0 v).deeds refl refl refl (λ y. (y.2, y.4)) cell),
        ((λ e. absurd (ne e)), λ _. refl),
      ) in goes) (decided (word_at z) old)

  pub cancels_at : (limits : List ℕ) (slots id k : ℕ) (m : MineOf A) (v : View A) (h : List (ℕ × SlotOf A)) (old new : ℕ) → m ≡ (v, h) → k < cells_in limits → k < length v.parts → old ≡ word (at k v).count 1 1 → new ≡ word (at k v).count 0 1 → owns (at k v) ≡ 1 → length (at k v).asked ≡ 1 → (at k v).taking ≡ 0
      → Allows (Ruled limits) slots id m k (λ n. either (n == old) new n) (cancels (step slots k old new none) m)
  cancels_at limits slots id k m v h old new e inside long is_old is_new own open_ idle = at_seat limits slots id k (λ n. either (n == old) new n) (λ (z : MineOf A). cancels (step slots k old new none) z) m (v, h) e
      (cancels_keep limits slots id k v h old new inside long is_old is_new own open_ idle)
