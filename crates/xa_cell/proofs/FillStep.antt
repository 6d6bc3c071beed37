-- fill: by one compare and exchange the seat with the ticket makes PENDING to FILLED, and the slot is home with the answer; or it comes too late.
use Rattle.std.proofs.Common.{◌≡◌, ◌≢◌, ℕ, ◌+◌, ◌<◌, ◌≤◌, ◌==◌, List, [], ◌∷◌, ◌++◌, length, get_or, set, sym, refl, ap, ◌∙◌, subst, arith, Some, None, inl, inr, ⊎_elim, eq-eqb, ne_eqb}
use Rattle.std.proofs.lemmas.List.Elements.{All-nil, All-cons, All-weaker, All-append}
use mathlib.Core.Option.{none, some}
use prog.Atomic.{either}
use lib.ListN.{get_elem?}
use Rattle.atomic_table.specs.Table.{Act, step, keeps, gives, stepped, Valid, carried_after, Allows}
use Rattle.xa_cell.specs.declared.view.Opening.{Opening}
use Rattle.xa_cell.specs.declared.view.Fill.{Fill}
use Rattle.xa_cell.specs.declared.view.Part.{Part}
use Rattle.xa_cell.specs.declared.view.View.{View}
use Rattle.xa_cell.specs.declared.view.Carried.TheVariants.{Asked, Answer}
use Rattle.xa_cell.specs.Views.{opening, fill, at}
use Rattle.xa_cell.specs.Counts.{once, times, among}
use Rattle.xa_cell.specs.Dealing.{cells_in}
use Rattle.xa_cell.specs.Rule.{total, word, IsIn, WasFilled, held, Owner, Other, Cell, Ruled}
use Rattle.xa_cell.specs.Steps.{delivered, too_late, fills}
use Rattle.xa_cell.proofs.Lists.{decided, total_set, total_zero, set_mine, in_left, in_right, was_here, times_append}
use Rattle.xa_cell.proofs.OneCell.{SlotOf, HomeOf, Spot, fits, ticket_names, ticket_is, lone_ticket, one_holds, no_taking, none_filled, none_given, resided, grown, changed, quiet, same_waits, slot_same, same_dropped, keeps_filled}
use Rattle.xa_cell.proofs.Lifting.{StateOf, MineOf, Site, at_seat, word_at, spot, After, kept, back, becomes, stays}

module _ {A : Type 0} where
  fill_cell : (z : Spot A) (t : Opening) (a : A) (home' : HomeOf A) → z.p.tickets ≡ t ∷ [] → z.p.filling ≡ 1 → z.w ≡ word t.number 1 1 → home' ≡ some (some (Some (Answer a)))
      → Cell (word t.number 1 0) home' (set z.ps z.id (record z.p { tickets = []; filling = 0; filled = z.p.filled ++ fill t a ∷ [] }))
  fill_cell z t a home' is has pend at' =
      let c = z.c in let p = z.p in let ps = z.ps in let id = z.id in let here = z.here in
      let tn = ticket_names z t is in let own = tn.0 in let un = ticket_is z own in let ft = fits z in
      let e0 : Fill A = fill t a in
      let p' : Part A = record p { tickets = []; filling = 0; filled = p.filled ++ e0 ∷ [] } in
      let nn : t.number ≡ c.n = ap (λ (o : Opening). o.number) tn.1 in
      let nt = no_taking ps c.n c.open_ c.unspent c.q p un c.opened ft in
      let same : word t.number 1 1 ≡ word c.n c.open_ c.unspent = sym pend ∙ c.word_is in
      let same' : word c.n 1 1 ≡ word c.n c.open_ c.unspent = (λ i. word (sym nn i) 1 1) ∙ same in
      let op : c.open_ ≡ 1 = omega arith in
      let all_held = one_holds z (omega arith) in
      let lt = ft.cancelled in let ll = ft.late in let one_t = ap length is in
      let f : (e : Fill A) → IsIn e p.filled → IsIn e p'.filled = λ e h. in_left e p.filled (e0 ∷ []) h in
      let zero_held : total held (set ps id p') ≡ 0 = (let b = total_set held ps id p p' here in omega arith) in
      let once' : (m : ℕ) → total (λ (y : Part A). times m y.filled) (set ps id p') + total (λ (y : Part A). among m y.given_up) (set ps id p') ≤ 1 = λ m. let gb = total_set (λ (y : Part A). among m y.given_up) ps id p p' here in let b = total_set (λ (y : Part A). times m y.filled) ps id p p' here in let ta = times_append m p.filled (e0 ∷ []) in let old = c.filled_once m in
      ⊎_elim (λ (em : m ≡ c.n). let y = none_filled z un m em in let x = none_given z op m em in let le : once (t.number == m) ≡ 1 = ap once (eq-eqb t.number m (nn ∙ sym em)) in let k : total (λ (y : Part A). times m y.filled) (set ps id p') + total (λ (y : Part A). among m y.given_up) (set ps id p') ≤ 1 = omega arith in k)
      (λ (ne : m ≢ c.n). let le : once (t.number == m) ≡ 0 = ap once (ne_eqb t.number m (λ h. ne (sym h ∙ nn))) in let k : total (λ (y : Part A). times m y.filled) (set ps id p') + total (λ (y : Part A). among m y.given_up) (set ps id p') ≤ 1 = omega arith in k) (decided m c.n) in
      changed z p' (word t.number 1 0) home' c.n 1 0 c.q (omega arith) (omega arith) (λ i. word (nn i) 1 0) refl (omega arith) f once' (omega arith) (omega arith) (λ a b. absurd (omega arith)) (same_dropped z p' refl refl)
      (λ j r ne e o. record { one = o.one; count = o.count; asked = o.asked ∙ op; request = o.request; settled = (let y = o.settled in omega arith); taking = (let y = o.taking in omega arith); alone = (let y = o.alone in omega arith) })
      (λ j r ne e. inl (lone_ticket z own j r ne e))
      (record {
        waits = 1;
        none_waits = λ lt. absurd (omega arith);
        one_waits = λ lt. let b = total_set (λ (y : Part A). y.taking) ps id p p' here in let none_ = total_zero (λ (y : Part A). y.taking) ps (λ j r e. no_taking ps c.n c.open_ c.unspent c.q r un c.opened (c.each j r e)) in omega arith;
        here = (let h = c.waiting.here in let none_ = c.waiting.none_waits (omega arith) in let a' = total_set (λ (y : Part A). times c.n y.taken) ps id p p' here in let b = total_set (λ (y : Part A). times c.n y.filled) ps id p p' here in let ta = times_append c.n p.filled (e0 ∷ []) in
            let le : once (t.number == c.n) ≡ 1 = ap once (eq-eqb t.number c.n nn) in omega arith);
        before = λ m ne. let h = c.waiting.before m ne in let a' = total_set (λ (y : Part A). times m y.taken) ps id p p' here in let b = total_set (λ (y : Part A). times m y.filled) ps id p p' here in let ta = times_append m p.filled (e0 ∷ []) in
            let le : once (t.number == m) ≡ 0 = ap once (ne_eqb t.number m (λ e. ne (sym e ∙ nn))) in omega arith;
      })
      (record {
        side = ⊎_elim (λ (o : Owner c.n c.open_ c.unspent c.q p). inl (record { one = o.one; count = o.count; asked = o.asked ∙ op; request = o.request; settled = (let y = o.settled in omega arith); taking = (let y = o.taking in omega arith); alone = (let y = o.alone in omega arith) }))
            (λ (o : Other p). inr (record { none_ = o.none_; count = o.count; asked = o.asked; settled = o.settled; taking = o.taking })) ft.side;
        tickets = All-nil (λ (y : Opening). y ≡ opening c.n c.q);
        filling = (omega arith);
        late = (omega arith);
        cancelled = (omega arith);
        dropped = All-weaker (λ (d : ℕ). d + c.unspent ≤ c.n) (λ (d : ℕ). d + 0 ≤ c.n) (λ d h. omega arith) p.dropped ft.dropped;
        given_up = All-weaker (λ (g : ℕ). g + c.open_ ≤ c.n) (λ (g : ℕ). g + 1 ≤ c.n) (λ g h. omega arith) p.given_up ft.given_up;
        filled = All-append (λ (e : Fill A). e.opening.number + 0 ≤ c.n) p.filled (e0 ∷ []) (All-weaker (λ (e : Fill A). e.opening.number + c.unspent ≤ c.n) (λ (e : Fill A). e.opening.number + 0 ≤ c.n) (λ e h. omega arith) p.filled ft.filled)
            (All-cons (λ (e : Fill A). e.opening.number + 0 ≤ c.n) e0 [] (omega arith) (All-nil (λ (e : Fill A). e.opening.number + 0 ≤ c.n)));
        taken = All-weaker (WasFilled ps) (WasFilled (set ps id p')) (grown z p' f) p.taken ft.taken;
      })
      (inl (
        zero_held,
        (
          Some (Answer a),
          at',
          record {
            pending = λ h. absurd (omega arith);
            closed = λ h. absurd (omega arith);
            filled = λ h k. (
              a,
              refl,
              subst (WasFilled (set ps id p')) (λ i. fill (tn.1 i) a)
                  (was_here (set ps id p') id p' e0 (set_mine ps id p p' here) (in_right e0 p.filled (e0 ∷ []) (inl refl))),
            );
          },
        ),
      ))

  late_cell : (z : Spot A) (t : Opening) → z.p.tickets ≡ t ∷ [] → z.p.filling ≡ 1 → z.w ≢ word t.number 1 1 → Cell z.w z.home (set z.ps z.id (record z.p { late = 1 }))
  late_cell z t is has ne = let c = z.c in let p = z.p in let tn = ticket_names z t is in let un = ticket_is z tn.0 in let ft = fits z in let p' : Part A = record p { late = 1 } in
      let nn : t.number ≡ c.n = ap (λ (o : Opening). o.number) tn.1 in let le = c.opened in
      let shut : c.open_ ≢ 1 = λ op. ne (c.word_is ∙ (λ i. word (sym nn i) (op i) (un i))) in
      let op : c.open_ ≡ 0 = omega (arith, shut) in
      quiet z p' z.home refl refl refl refl refl (same_waits z p' refl refl refl) (record {
        side = resided c.n c.open_ c.unspent c.q p p.tickets p.filling 1 p.taken p.filled ft.side;
        tickets = ft.tickets;
        filling = ft.filling;
        late = (omega arith);
        cancelled = (omega arith);
        given_up = ft.given_up;
        dropped = ft.dropped;
        filled = ft.filled;
        taken = keeps_filled z p' refl;
      }) (slot_same z p' refl (λ e h. h))

  answer_in : A → SlotOf A → A
  answer_in d None = d
  answer_in d (Some (Asked q)) = d
  answer_in d (Some (Answer a)) = a

  answer_or : A → List (ℕ × SlotOf A) → A
  answer_or d [] = d
  answer_or d (x ∷ xs) = answer_in d x.1

  same_answer : (k j : ℕ) (a b : A) → let l : List (ℕ × SlotOf A) = (k, Some (Answer a)) ∷ [] in let m : List (ℕ × SlotOf A) = (j, Some (Answer b)) ∷ [] in l ≡ m → a ≡ b
  unfolding answer_or answer_in
  same_answer k j a b e = ap (answer_or a) e

  -- what the step comes to
  abbrev FillsTo : List ℕ → ℕ → ℕ → ℕ → View A → A → ℕ → ℕ → StateOf A → Type 0
  FillsTo limits slots id k v a old new s = (w : View A) × (act : Act (SlotOf A)) × Valid s.homes ((k, Some (Answer a)) ∷ []) act × Ruled limits (stepped s k (either (get_or s.words k 0 == old) new (get_or s.words k 0)) id ((k, Some (Answer a)) ∷ []) w act)
      × fills (step slots k old new none) (v, (k, Some (Answer a)) ∷ []) (get_or s.words k 0) (w, carried_after ((k, Some (Answer a)) ∷ []) act)

  fills_keep : (limits : List ℕ) (slots id k : ℕ) (v : View A) (t : Opening) (a : A) (old new : ℕ) → k < cells_in limits → k < length v.parts → old ≡ word t.number 1 1 → new ≡ word t.number 1 0 → 0 < length v.callers → (at k v).tickets ≡ t ∷ [] → (at k v).filling ≡ 1
      → Allows (Ruled limits) slots id (v, (k, Some (Answer a)) ∷ []) k (λ n. either (n == old) new n) (fills (step slots k old new none) (v, (k, Some (Answer a)) ∷ []))
  fills_keep limits slots id k v t a old new inside long is_old is_new of_caller is has s r deep here small =
      let z : Site A = record { limits = limits; id = id; k = k; v = v; inside = inside; long = long; s = s; r = r; here = here } in
      ⊎_elim
      (λ (e : word_at z ≡ old).
      let p' : Part A = record (at k v) { tickets = []; filling = 0; filled = (at k v).filled ++ fill t a ∷ [] } in let ds = (delivered k t a v).deeds in
      let cell = λ (h : HomeOf A) (at' : h ≡ some (some (Some (Answer a)))). fill_cell (spot z) t a h is has (e ∙ is_old) at' in
      let moved = back z (word t.number 1 0) (Some (Answer a)) p' ds (λ n. absurd (omega arith)) cell in
      let goes : FillsTo limits slots id k v a old new s = (
        delivered k t a v,
        gives,
        tt,
        becomes z (λ y. After z y p' ds (set s.homes k (some (Some (Answer a))))) old new e (subst (λ y. After z y p' ds (set s.homes k (some (Some (Answer a))))) (sym is_new) moved),
        (λ o b is' eq. let same_t : t ≡ o = cc in let same = same_answer k k a b eq in ((λ _ i. (delivered k (same_t i) (same i) v, [])), λ ne. absurd (ne e))),
      ) in goes)
      (λ (ne : word_at z ≢ old). let cell = late_cell (spot z) t is has (λ e. ne (e ∙ sym is_old)) in let p' : Part A = record (at k v) { late = 1 } in let ds = (too_late k t v).deeds in
      let goes : FillsTo limits slots id k v a old new s = (
        too_late k t v,
        keeps,
        tt,
        stays z (λ y. After z y p' ds s.homes) old new ne (kept z (word_at z) p' ds refl refl refl (λ y. (y.2, y.4)) cell),
        (λ o b is' eq. let same_t : t ≡ o = cc in ((λ e. absurd (ne e)), λ _ i. (too_late k (same_t i) v, (k, Some (Answer a)) ∷ []))),
      ) in goes) (decided (word_at z) old)

  pub fills_at : (limits : List ℕ) (slots id k : ℕ) (m : MineOf A) (v : View A) (t : Opening) (a : A) (old new : ℕ) → m ≡ (v, (k, Some (Answer a)) ∷ []) → k < cells_in limits → k < length v.parts → old ≡ word t.number 1 1 → new ≡ word t.number 1 0 → 0 < length v.callers → (at k v).tickets ≡ t ∷ [] → (at k v).filling ≡ 1
      → Allows (Ruled limits) slots id m k (λ n. either (n == old) new n) (fills (step slots k old new none) m)
  fills_at limits slots id k m v t a old new e inside long is_old is_new of_caller is has = at_seat limits slots id k (λ n. either (n == old) new n) (λ (z : MineOf A). fills (step slots k old new none) z) m (v, (k, Some (Answer a)) ∷ []) e
      (fills_keep limits slots id k v t a old new inside long is_old is_new of_caller is has)
