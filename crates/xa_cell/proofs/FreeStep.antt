-- free: the owner makes FILLED to FREE, and the slot is home and empty; or PENDING to FREE, where it has the ticket.
use Rattle.std.proofs.Common.{◌≡◌, ℕ, ◌+◌, ◌-◌, ◌%◌, ◌^◌, ◌<◌, ◌≤◌, List, [], ◌∷◌, length, set, sym, refl, ap, ◌∙◌, subst, arith, None, inl}
use Rattle.std.proofs.lemmas.List.Elements.{All-nil, All-weaker}
use mathlib.Core.Option.{none, some}
use Rattle.atomic_table.specs.Table.{step, keeps, gives, Allows}
use Rattle.xa_types.specs.declared.ids.RequestId.{RequestId}
use Rattle.xa_cell.specs.declared.view.Opening.{Opening}
use Rattle.xa_cell.specs.declared.view.Fill.{Fill}
use Rattle.xa_cell.specs.declared.view.Part.{Part}
use Rattle.xa_cell.specs.declared.view.View.{View}
use Rattle.xa_cell.specs.Views.{opening, at}
use Rattle.xa_cell.specs.Dealing.{cells_in}
use Rattle.xa_cell.specs.Rule.{total, word, owns, unspent_in, held, Cell, Ruled}
use Rattle.xa_cell.specs.Steps.{freed, withdrew, frees, withdraws}
use Rattle.xa_cell.proofs.Lists.{total_set, total_one, total_zero}
use Rattle.xa_cell.proofs.OneCell.{SlotOf, HomeOf, Spot, fits, owner, ticket_names, ticket_is, lone_ticket, at_home, one_holds, others_free, not_owner, changed, same_once, same_dropped, no_waits, keeps_filled}
use Rattle.xa_cell.proofs.ShutPlace.{shut_cell}
use Rattle.xa_cell.proofs.Lifting.{MineOf, Site, at_seat, spot, After, kept, back, of_none}

module _ {A : Type 0} where
  free_cell : (z : Spot A) (home' : HomeOf A) → owns z.p ≡ 1 → z.p.taking ≡ 1 → home' ≡ some (some None) → (z.w ≡ word z.p.count 1 0) × Cell (word z.p.count 0 0) home' (set z.ps z.id (record z.p { asked = []; settled = 1; taking = 0 }))
  free_cell z home' own has at' = let c = z.c in let p = z.p in let ps = z.ps in let id = z.id in let here = z.here in let o = owner z own in let al = o.alone in let tk = o.taking in let le = c.opened in let un : c.unspent ≡ 0 = omega arith in let op : c.open_ ≡ 1 = omega arith in
      let p' : Part A = record p { asked = []; settled = 1; taking = 0 } in let all_held = one_holds z (omega arith) in let ft = fits z in let fl = ft.filling in let ot = c.one_ticket in let t1 = total_one unspent_in ps id p here in
      let zero_held : total held (set ps id p') ≡ 0 = (let b = total_set held ps id p p' here in omega arith) in (
        c.word_is ∙ (λ i. word (sym o.count i) (op i) (un i)),
        shut_cell z 1 0 0 p.given_up home' own un (omega arith) refl (All-weaker (λ (g : ℕ). g + c.open_ ≤ c.n) (λ (g : ℕ). g + 0 ≤ c.n) (λ g h. omega arith) p.given_up ft.given_up) (same_once z p' refl refl) (λ h. absurd (omega arith)) (same_dropped z p' refl refl)
            (no_waits z p' refl refl 0 0 (omega arith) (let one = c.waiting.one_waits (omega arith) in let some_ = total_one (λ (y : Part A). y.taking) ps id p here in omega arith))
            (inl (zero_held, (None, at', record { pending = λ _. refl; closed = λ _. refl; filled = λ h k. absurd (omega arith) }))),
      )

  frees_keep : (limits : List ℕ) (slots id k : ℕ) (v : View A) (f : ℕ → ℕ) (a b : ℕ) → k < cells_in limits → k < length v.parts → f (word (at k v).count 1 0) ≡ word (at k v).count 0 0 → owns (at k v) ≡ 1 → (at k v).taking ≡ 1
      → Allows (Ruled limits) slots id (v, (k, None) ∷ []) k f (frees (step slots k a b none) (v, (k, None) ∷ []))
  frees_keep limits slots id k v f a b inside long is_new own has s r deep here small =
      let z : Site A = record { limits = limits; id = id; k = k; v = v; inside = inside; long = long; s = s; r = r; here = here } in
      let was = (free_cell (spot z) (some (some None)) own has refl).0 in let cell = λ (h : HomeOf A) (at' : h ≡ some (some None)). (free_cell (spot z) h own has at').1 in
      let p' : Part A = record (at k v) { asked = []; settled = 1; taking = 0 } in (
        freed k v,
        gives,
        tt,
        subst (λ y. After z y p' v.deeds (set s.homes k (some None))) (sym (ap f was ∙ is_new)) (back z (word (at k v).count 0 0) None p' v.deeds (λ n. let o = of_none z n in absurd (let y = o.2 in omega arith)) cell),
        refl,
      )

  withdraw_cell : (z : Spot A) (t : Opening) → owns z.p ≡ 1 → length z.p.asked ≡ 1 → z.p.tickets ≡ t ∷ [] → z.p.filling ≡ 0
      → (z.w ≡ word z.p.count 1 1) × Cell (word z.p.count 0 0) z.home (set z.ps z.id (record z.p { asked = []; settled = 1; tickets = [] }))
  withdraw_cell z t own open_ is idle =
      let c = z.c in let p = z.p in let ps = z.ps in let id = z.id in let here = z.here in
      let o = owner z own in let ft = fits z in let tn = ticket_names z t is in let un = ticket_is z tn.0 in let a = o.asked in let op : c.open_ ≡ 1 = omega arith in
      let p' : Part A = record p { asked = []; settled = 1; tickets = [] } in let x = at_home z (others_free z tn.0 idle) in let al = o.alone in let one_t = ap length is in
      let zero_held : total held (set ps id p') ≡ 0 = (let b = total_set held ps id p p' here in let y = total_zero held ps (others_free z tn.0 idle) in omega arith) in
      let lt = ft.late in (
        c.word_is ∙ (λ i. word (sym o.count i) (op i) (un i)),
        changed z p' (word p.count 0 0) z.home c.n 0 0 c.q (omega arith) (omega arith) (λ i. word (o.count i) 0 0) refl (omega arith) (λ e h. h) (same_once z p' refl refl) (omega arith) (omega arith) (λ a b. absurd (omega arith)) (same_dropped z p' refl refl) (not_owner z own) (λ j r ne e. inl (lone_ticket z tn.0 j r ne e)) (no_waits z p' refl refl 0 0 (omega arith) (c.waiting.none_waits (omega arith))) (record {
          side = inl (record { one = o.one; count = o.count; asked = refl; request = All-nil (λ (y : RequestId). y ≡ c.q); settled = (omega arith); taking = (omega arith); alone = (omega arith) });
          tickets = All-nil (λ (y : Opening). y ≡ opening c.n c.q);
          filling = (omega arith);
          late = lt;
          cancelled = (omega arith);
          dropped = All-weaker (λ (d : ℕ). d + c.unspent ≤ c.n) (λ (d : ℕ). d + 0 ≤ c.n) (λ d h. omega arith) p.dropped ft.dropped;
          given_up = All-weaker (λ (g : ℕ). g + c.open_ ≤ c.n) (λ (g : ℕ). g + 0 ≤ c.n) (λ g h. omega arith) p.given_up ft.given_up;
          filled = All-weaker (λ (e : Fill A). e.opening.number + c.unspent ≤ c.n) (λ (e : Fill A). e.opening.number + 0 ≤ c.n) (λ e h. omega arith) p.filled ft.filled;
          taken = keeps_filled z p' refl;
        }) (inl (zero_held, (x.0, x.1, record { pending = λ _. x.2.pending un; closed = λ _. x.2.pending un; filled = λ h k. absurd (omega arith) }))),
      )

  withdraws_keep : (limits : List ℕ) (slots id k : ℕ) (v : View A) (t : Opening) (h : List (ℕ × SlotOf A)) (f : ℕ → ℕ) (a b : ℕ) → k < cells_in limits → k < length v.parts → f (word (at k v).count 1 1) ≡ word (at k v).count 0 0
      → owns (at k v) ≡ 1 → length (at k v).asked ≡ 1 → (at k v).tickets ≡ t ∷ [] → (at k v).filling ≡ 0
      → Allows (Ruled limits) slots id (v, h) k f (withdraws (step slots k a b none) (v, h))
  withdraws_keep limits slots id k v t h f a b inside long is_new own open_ is idle s r deep here small =
      let z : Site A = record { limits = limits; id = id; k = k; v = v; inside = inside; long = long; s = s; r = r; here = here } in
      let l = withdraw_cell (spot z) t own open_ is idle in
      let p' : Part A = record (at k v) { asked = []; settled = 1; tickets = [] } in let ds = (withdrew k v).deeds in (
        withdrew k v,
        keeps,
        tt,
        subst (λ y. After z y p' ds s.homes) (sym (ap f l.0 ∙ is_new)) (kept z (word (at k v).count 0 0) p' ds refl refl refl (λ y. (y.2, y.4)) l.1),
        refl,
      )

  pub frees_at : (limits : List ℕ) (slots id k : ℕ) (m : MineOf A) (v : View A) → m ≡ (v, (k, None) ∷ []) → k < cells_in limits → k < length v.parts → owns (at k v) ≡ 1 → (at k v).taking ≡ 1
      → Allows (Ruled limits) slots id m k (λ n. (n + (2 ^ 64 - 2)) % 2 ^ 64) (frees (step slots k 2 0 none) m)
  frees_at limits slots id k m v e inside long own has = at_seat limits slots id k (λ n. (n + (2 ^ 64 - 2)) % 2 ^ 64) (λ (z : MineOf A). frees (step slots k 2 0 none) z) m (v, (k, None) ∷ []) e
      (frees_keep limits slots id k v (λ n. (n + (2 ^ 64 - 2)) % 2 ^ 64) 2 0 inside long (omega arith) own has)

  pub withdraws_at : (limits : List ℕ) (slots id k : ℕ) (m : MineOf A) (v : View A) (t : Opening) (h : List (ℕ × SlotOf A)) → m ≡ (v, h) → k < cells_in limits → k < length v.parts → owns (at k v) ≡ 1 → length (at k v).asked ≡ 1 → (at k v).tickets ≡ t ∷ [] → (at k v).filling ≡ 0
      → Allows (Ruled limits) slots id m k (λ n. (n + (2 ^ 64 - 3)) % 2 ^ 64) (withdraws (step slots k 3 0 none) m)
  withdraws_at limits slots id k m v t h e inside long own open_ is idle = at_seat limits slots id k (λ n. (n + (2 ^ 64 - 3)) % 2 ^ 64) (λ (z : MineOf A). withdraws (step slots k 3 0 none) z) m (v, h) e
      (withdraws_keep limits slots id k v t h (λ n. (n + (2 ^ 64 - 3)) % 2 ^ 64) 3 0 inside long (omega arith) own open_ is idle)
