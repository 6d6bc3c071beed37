-- open: the owner makes a FREE cell PENDING, with the next number, and has the ticket.
use Rattle.std.proofs.Common.{◌≡◌, ◌≢◌, ℕ, ◌+◌, ◌<◌, ◌≤◌, ◌==◌, List, [], ◌∷◌, length, set, sym, refl, ap, ◌∙◌, subst, arith, Some, inl, ⊎_elim}
use Rattle.std.proofs.lemmas.List.Elements.{All-nil, All-cons, All-weaker}
use mathlib.Core.Option.{some}
use prog.Atomic.{either}
use lib.ListN.{get_elem?}
use Rattle.atomic_table.specs.Table.{step, keeps, Allows}
use Rattle.xa_types.specs.declared.ids.RequestId.{RequestId}
use Rattle.xa_cell.specs.declared.view.Opening.{Opening}
use Rattle.xa_cell.specs.declared.view.Fill.{Fill}
use Rattle.xa_cell.specs.declared.view.Part.{Part}
use Rattle.xa_cell.specs.declared.view.View.{View}
use Rattle.xa_cell.specs.declared.view.Carried.TheVariants.{Asked}
use Rattle.xa_cell.specs.Views.{opening, at}
use Rattle.xa_cell.specs.Counts.{times}
use Rattle.xa_cell.specs.Dealing.{cells_in}
use Rattle.xa_cell.specs.Rule.{total, word, owns, unspent_in, held, Owner, Other, Cell, Ruled}
use Rattle.xa_cell.specs.Steps.{begun, opens}
use Rattle.xa_cell.proofs.Lists.{decided, total_set, total_one, total_zero}
use Rattle.xa_cell.proofs.OneCell.{SlotOf, Spot, fits, owner, at_home, not_owner, changed, same_once, same_dropped, keeps_filled}
use Rattle.xa_cell.proofs.Lifting.{MineOf, Site, spot, After, kept, becomes}

module _ {A : Type 0} where
  open_cell : (z : Spot A) (q : RequestId) → owns z.p ≡ 1 → length z.p.asked ≡ 0 → z.p.settled ≡ 1
      → (z.w ≡ word z.p.count 0 0) × Cell (word (z.p.count + 1) 1 1) z.home (set z.ps z.id (record z.p { count = z.p.count + 1; asked = q ∷ []; settled = 0; tickets = opening (z.p.count + 1) q ∷ [] }))
  open_cell z q own closed settled =
      let c = z.c in let p = z.p in let o = owner z own in let ft = fits z in
      let p' : Part A = record p { count = p.count + 1; asked = q ∷ []; settled = 0; tickets = opening (p.count + 1) q ∷ [] } in
      let s = o.settled in let un : c.unspent ≡ 0 = omega arith in let a = o.asked in let op : c.open_ ≡ 0 = omega arith in
      let ot = c.one_ticket in let cn = o.count in
      let no_ticket : (j : ℕ) (r : Part A) → get_elem? z.ps j ≡ some r → unspent_in r ≡ 0 = λ j r e. let t = total_one unspent_in z.ps j r e in omega arith in
      let none_has : (j : ℕ) (r : Part A) → get_elem? z.ps j ≡ some r → held r ≡ 0 = λ j r e. let t = no_ticket j r e in let fr = (c.each j r e).filling in
      ⊎_elim (λ (h : Owner c.n c.open_ c.unspent c.q r). let y = h.taking in let k : held r ≡ 0 = omega arith in k) (λ (h : Other r). let y = h.taking in let k : held r ≡ 0 = omega arith in k) (c.each j r e).side in
      let x = at_home z none_has in
      let mine : unspent_in p ≡ 0 = no_ticket z.id p z.here in
      let fl = ft.filling in let tk = o.taking in let lt = ft.late in
      let old = c.waiting in
      let same : (m : ℕ) → (total (λ (y : Part A). times m y.taken) (set z.ps z.id p') ≡ total (λ (y : Part A). times m y.taken) z.ps) × (total (λ (y : Part A). times m y.filled) (set z.ps z.id p') ≡ total (λ (y : Part A). times m y.filled) z.ps) =
      λ m. let a = total_set (λ (y : Part A). times m y.taken) z.ps z.id p p' z.here in let b' = total_set (λ (y : Part A). times m y.filled) z.ps z.id p p' z.here in (omega arith, omega arith) in
      let zero_held : total held (set z.ps z.id p') ≡ 0 = (let t = total_set held z.ps z.id p p' z.here in let y = total_zero held z.ps none_has in omega arith) in (
        c.word_is ∙ (λ i. word (sym cn i) (op i) (un i)),
        changed z p' (word (p.count + 1) 1 1) z.home (p.count + 1) 1 1 q (omega arith) (omega arith) refl refl (omega arith) (λ e h. h) (same_once z p' refl refl) (omega arith) (omega arith) (λ a b. absurd (omega arith)) (same_dropped z p' refl refl) (not_owner z own) (λ j r ne e. inl (no_ticket j r e))
            (record {
              waits = 0;
              none_waits = λ lt. refl;
              one_waits = λ lt. absurd (omega arith);
              here = (let t = same (p.count + 1) in let t0 = t.0 in let t1 = t.1 in let e = old.before (p.count + 1) (λ e. omega arith) in omega arith);
              before = λ m ne. let t = same m in let t0 = t.0 in let t1 = t.1 in ⊎_elim (λ (em : m ≡ c.n). let h = old.here in let none_ = old.none_waits (omega arith) in
                  let e = ap (λ (i : ℕ). total (λ (y : Part A). times i y.taken) z.ps) em in let f = ap (λ (i : ℕ). total (λ (y : Part A). times i y.filled) z.ps) em in let k : total (λ (y : Part A). times m y.taken) (set z.ps z.id p') ≡ total (λ (y : Part A). times m y.filled) (set z.ps z.id p') = omega arith in k)
                  (λ (en : m ≢ c.n). let e = old.before m en in let k : total (λ (y : Part A). times m y.taken) (set z.ps z.id p') ≡ total (λ (y : Part A). times m y.filled) (set z.ps z.id p') = omega arith in k) (decided m c.n);
            })
            (record {
              side = inl (record { one = own; count = refl; asked = refl; request = All-cons (λ (r : RequestId). r ≡ q) q [] refl (All-nil (λ (r : RequestId). r ≡ q)); settled = (omega arith); taking = (omega arith); alone = (omega arith) });
              tickets = All-cons (λ (t : Opening). t ≡ opening (p.count + 1) q) (opening (p.count + 1) q) [] refl (All-nil (λ (t : Opening). t ≡ opening (p.count + 1) q));
              filling = (omega arith);
              late = lt;
              cancelled = (omega arith);
              dropped = All-weaker (λ (d : ℕ). d + c.unspent ≤ c.n) (λ (d : ℕ). d + 1 ≤ p.count + 1) (λ d h. omega arith) p.dropped ft.dropped;
              given_up = All-weaker (λ (g : ℕ). g + c.open_ ≤ c.n) (λ (g : ℕ). g + 1 ≤ p.count + 1) (λ g h. omega arith) p.given_up ft.given_up;
              filled = All-weaker (λ (e : Fill A). e.opening.number + c.unspent ≤ c.n) (λ (e : Fill A). e.opening.number + 1 ≤ p.count + 1) (λ e h. omega arith) p.filled ft.filled;
              taken = keeps_filled z p' refl;
            }) (inl (zero_held, (x.0, x.1, record { pending = λ _. x.2.closed op; closed = λ h. absurd (omega arith); filled = λ h k. absurd (omega arith) }))),
      )

  pub opens_keep : (limits : List ℕ) (slots id k : ℕ) (v : View A) (h : List (ℕ × SlotOf A)) (q : RequestId) (old new : ℕ) → k < cells_in limits → k < length v.parts
      → old ≡ word (at k v).count 0 0 → new ≡ word ((at k v).count + 1) 1 1 → owns (at k v) ≡ 1 → length (at k v).asked ≡ 0 → (at k v).settled ≡ 1
      → Allows (Ruled limits) slots id (v, h) k (λ n. either (n == old) new n) (opens (step slots k old new (some (Some (Asked q)))) (v, h))
  opens_keep limits slots id k v h q old new inside long is_old is_new own closed settled s r deep here small =
      let z : Site A = record { limits = limits; id = id; k = k; v = v; inside = inside; long = long; s = s; r = r; here = here } in
      let l = open_cell (spot z) q own closed settled in let p = at k v in
      let p' : Part A = record p { count = p.count + 1; asked = q ∷ []; settled = 0; tickets = opening (p.count + 1) q ∷ [] } in let ds = (begun k q v).deeds in let hit = l.0 ∙ sym is_old in (
        begun k q v,
        keeps,
        tt,
        becomes z (λ y. After z y p' ds s.homes) old new hit (subst (λ y. After z y p' ds s.homes) (sym is_new) (kept z (word (p.count + 1) 1 1) p' ds refl refl refl (λ y. (y.2, y.4)) l.1)),
        (hit, λ q' e. let same : q ≡ q' = cc in ap (λ (y : RequestId). let m : MineOf A = (begun k y v, h) in m) same),
      )
