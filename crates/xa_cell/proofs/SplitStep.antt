-- split: a new seat gets a part of what a view holds: the ticket of an opening, or a caller's cells.
use Rattle.std.proofs.Common.{◌≡◌, ◌≢◌, ℕ, ◌+◌, ◌<◌, ◌≤◌, Bool, true, false, cond, List, [], ◌∷◌, ◌++◌, map, length, get_or, set, sym, refl, ap, ◌∙◌, subst, arith, ◌⊎◌, inl, inr, ⊎_elim}
use Rattle.std.proofs.lemmas.List.Elements.{All-nil}
use mathlib.Core.Option.{some}
use mathlib.Core.Option as maybe
use lib.ListN.{get_elem?}
use Rattle.atomic_table.specs.Table.{Splits}
use Rattle.atomic_table.proofs.Lists.{at_snoc, at_map}
use Rattle.xa_types.specs.declared.ids.RequestId.{RequestId}
use Rattle.xa_cell.specs.declared.view.Opening.{Opening}
use Rattle.xa_cell.specs.declared.view.Fill.{Fill}
use Rattle.xa_cell.specs.declared.view.Part.{Part}
use Rattle.xa_cell.specs.declared.view.View.{View}
use Rattle.xa_cell.specs.Views.{opening, blank, at}
use Rattle.xa_cell.specs.Counts.{times, among}
use Rattle.xa_cell.specs.Tokens.{ticket_part, rest_part, without_tickets, only_tickets}
use Rattle.xa_cell.specs.Rule.{total, IsIn, WasFilled, owns, unspent_in, held, Fits, Cell, Idle, OfCallers, Ruled}
use Rattle.xa_cell.proofs.Lists.{total_set, total_snoc, at_each, map_set, map_snoc, nth_map, was_cut}
use Rattle.xa_cell.proofs.OneCell.{Spot, AtHome, fits, other_fits, content_grows, resided}
use Rattle.xa_cell.proofs.Lifting.{StateOf}

module _ {A : Type 0} where
  -- a seat's part of a cell is cut in two
  cut_cell : (z : Spot A) (l r : Part A) → owns l + owns r ≡ owns z.p → unspent_in l + unspent_in r ≡ unspent_in z.p → held l + held r ≡ held z.p
      → l.taking + r.taking ≡ z.p.taking → ((m : ℕ) → times m l.taken + times m r.taken ≡ times m z.p.taken) → ((m : ℕ) → times m l.filled + times m r.filled ≡ times m z.p.filled) → ((m : ℕ) → among m l.given_up + among m r.given_up ≡ among m z.p.given_up) → ((m : ℕ) → among m l.dropped + among m r.dropped ≡ among m z.p.dropped)
      → ((e : Fill A) → IsIn e z.p.filled → IsIn e l.filled ⊎ IsIn e r.filled)
      → ((all : List (Part A)) (n op un : ℕ) (q : RequestId) → Fits all n op un q z.p → Fits all n op un q l × Fits all n op un q r)
      → Cell z.w z.home (set z.ps z.id l ++ r ∷ [])
  cut_cell z l r o u h tk tt' t tg td f parts = let c = z.c in let p = z.p in let ps = z.ps in let id = z.id in let here = z.here in
      let after : List (Part A) = set ps id l ++ r ∷ [] in let oo = c.one_owner in let ot = c.one_ticket in
      let a1 = total_set owns ps id p l here in let a2 = total_snoc owns (set ps id l) r in
      let b1 = total_set unspent_in ps id p l here in let b2 = total_snoc unspent_in (set ps id l) r in
      let h1 = total_set held ps id p l here in let h2 = total_snoc held (set ps id l) r in
      let grow : (e : Fill A) → WasFilled ps e → WasFilled after e = λ e k. was_cut ps id p l r e here (f e) k in
      let moved : (y : Part A) → Fits ps c.n c.open_ c.unspent c.q y → Fits after c.n c.open_ c.unspent c.q y = λ y k. other_fits ps after c.n c.open_ c.unspent c.n c.open_ c.unspent c.q c.q y grow (omega arith) (omega arith) c.opened (λ g. g) (inr (refl, refl, omega arith)) k in
      let two = parts ps c.n c.open_ c.unspent c.q (fits z) in record {
        n = c.n;
        open_ = c.open_;
        unspent = c.unspent;
        q = c.q;
        opened = c.opened;
        word_is = c.word_is;
        one_owner = (omega arith);
        one_ticket = (omega arith);
        few = c.few;
        cancelled = λ a b. let y1 = total_set (λ (y : Part A). among c.n y.given_up) ps id p l here in let y2 = total_snoc (λ (y : Part A). among c.n y.given_up) (set ps id l) r in let tgm = tg c.n in let old = c.cancelled a b in omega arith;
        dropped = λ m. let y1 = total_set (λ (y : Part A). among m y.given_up) ps id p l here in let y2 = total_snoc (λ (y : Part A). among m y.given_up) (set ps id l) r in let tgm = tg m in
            let d1 = total_set (λ (y : Part A). among m y.dropped) ps id p l here in let d2 = total_snoc (λ (y : Part A). among m y.dropped) (set ps id l) r in let tdm = td m in let old = c.dropped m in omega arith;
        filled_once = λ m. let y1 = total_set (λ (y : Part A). among m y.given_up) ps id p l here in let y2 = total_snoc (λ (y : Part A). among m y.given_up) (set ps id l) r in let tgm = tg m in
            let x1 = total_set (λ (y : Part A). times m y.filled) ps id p l here in let x2 = total_snoc (λ (y : Part A). times m y.filled) (set ps id l) r in let tm = t m in let old = c.filled_once m in omega arith;
        waiting = let w = c.waiting in let totals : (m : ℕ) → (total (λ (y : Part A). times m y.taken) after ≡ total (λ (y : Part A). times m y.taken) ps) × (total (λ (y : Part A). times m y.filled) after ≡ total (λ (y : Part A). times m y.filled) ps) =
            λ m. let y1 = total_set (λ (y : Part A). times m y.taken) ps id p l here in let y2 = total_snoc (λ (y : Part A). times m y.taken) (set ps id l) r in let ty = tt' m in
            let x1 = total_set (λ (y : Part A). times m y.filled) ps id p l here in let x2 = total_snoc (λ (y : Part A). times m y.filled) (set ps id l) r in let tx = t m in (omega arith, omega arith) in record {
              waits = w.waits;
              none_waits = w.none_waits;
              one_waits = λ lt. let one = w.one_waits lt in let k1 = total_set (λ (y : Part A). y.taking) ps id p l here in let k2 = total_snoc (λ (y : Part A). y.taking) (set ps id l) r in omega arith;
              here = (let s = totals c.n in let s0 = s.0 in let s1 = s.1 in let e = w.here in omega arith);
              before = λ m ne. let s = totals m in let s0 = s.0 in let s1 = s.1 in let e = w.before m ne in omega arith;
            };
        each = λ j y e. ⊎_elim (λ (k : get_elem? (set ps id l) j ≡ some y). at_each (Fits after c.n c.open_ c.unspent c.q) ps id l (moved l two.0) (λ i x ne g. moved x (c.each i x g)) j y k)
            (λ (k : r ≡ y). subst (Fits after c.n c.open_ c.unspent c.q) k (moved r two.1)) (at_snoc (set ps id l) r y j e);
        slot = ⊎_elim (λ (k : (total held ps ≡ 0) × AtHome z.home ps c.n c.open_ c.unspent c.q). let y = k.0 in
            inl ((omega arith), (k.1.0, k.1.1, content_grows ps after c.n c.open_ c.unspent c.q k.1.0 grow k.1.2)))
            (λ (k : total held ps ≡ 1). inr (omega arith)) c.slot;
      }

  -- a view is cut in two, cell by cell
  cuts : (limits : List ℕ) (s : StateOf A) (r : Ruled limits s) (id : ℕ) (v l m : View A) → get_elem? s.views id ≡ some v → length l.callers + length m.callers ≡ length v.callers → OfCallers l → OfCallers m
      → ((k : ℕ) → Cell (get_or s.words k 0) (get_elem? s.homes k) (map (at k) s.views) → Cell (get_or s.words k 0) (get_elem? s.homes k) (set (map (at k) s.views) id (at k l) ++ at k m ∷ []))
      → Ruled limits (record { words = s.words; homes = s.homes; views = set s.views id l ++ m ∷ [] })
  cuts limits s r id v l m here sum_ ol om cell = record {
    wide = r.wide;
    deep = r.deep;
    callers = (let a = total_set (λ (y : View A). length y.callers) s.views id v l here in let b = total_snoc (λ (y : View A). length y.callers) (set s.views id l) m in let e = r.callers in omega arith);
    each = λ j u e. ⊎_elim (λ (h : get_elem? (set s.views id l) j ≡ some u). at_each OfCallers s.views id l ol (λ i y ne g. r.each i y g) j u h) (λ (h : m ≡ u). subst OfCallers h om) (at_snoc (set s.views id l) m u j e);
    cell = λ k lt. let col : map (at k) (set s.views id l ++ m ∷ []) ≡ set (map (at k) s.views) id (at k l) ++ at k m ∷ [] = map_snoc (at k) (set s.views id l) m ∙ ap (λ (q : List (Part A)). q ++ at k m ∷ []) (map_set (at k) s.views id l) in
        subst (λ (q : List (Part A)). Cell (get_or s.words k 0) (get_elem? s.homes k) q) (sym col) (cell k (r.cell k lt));
  }

  -- the seat's part of the cell k
  abbrev seen : (s : StateOf A) (id k : ℕ) (v : View A) → get_elem? s.views id ≡ some v → Cell (get_or s.words k 0) (get_elem? s.homes k) (map (at k) s.views) → Spot A
  seen s id k v here c = record { w = get_or s.words k 0; home = get_elem? s.homes k; ps = map (at k) s.views; c = c; id = id; p = at k v; here = at_map (at k) s.views id v here }

  -- what a part is that has nothing
  blank_fits : (all : List (Part A)) (n op un : ℕ) (q : RequestId) → op ≤ 1 → Fits all n op un q blank
  blank_fits all n op un q le = record {
    side = inr (record { none_ = refl; count = refl; asked = refl; settled = refl; taking = refl });
    tickets = All-nil (λ (t : Opening). t ≡ opening n q);
    filling = (omega arith);
    late = (omega arith);
    cancelled = (omega arith);
    given_up = All-nil (λ (x : ℕ). x + op ≤ n);
    dropped = All-nil (λ (x : ℕ). x + un ≤ n);
    filled = All-nil (λ (e : Fill A). e.opening.number + un ≤ n);
    taken = All-nil (WasFilled all);
  }

  -- the tickets of a view go to a new seat, which has no slot yet
  tickets_split : (limits : List ℕ) (id : ℕ) (v : View A) → 0 < length v.callers → ((k : ℕ) → (at k v).filling ≡ 0) → Splits (Ruled limits) id v (without_tickets v) (only_tickets v)
  tickets_split limits id v some_caller idle s r here =
      let left_at : (k : ℕ) → at k (without_tickets v) ≡ rest_part (at k v) = λ k. nth_map rest_part v.parts k refl in
      let right_at : (k : ℕ) → at k (only_tickets v) ≡ ticket_part (at k v) = λ k. nth_map ticket_part v.parts k refl in
      cuts limits s r id v (without_tickets v) (only_tickets v) here (omega arith)
      (λ n. absurd (omega arith))
      (λ n k. subst Idle (sym (right_at k)) (refl, refl, (let i = idle k in omega arith), refl, refl))
      (λ k c. subst (λ (y : Part A × Part A). Cell (get_or s.words k 0) (get_elem? s.homes k) (set (map (at k) s.views) id y.0 ++ y.1 ∷ [])) (λ i. (sym (left_at k) i, sym (right_at k) i))
      (cut_cell (seen s id k v here c) (rest_part (at k v)) (ticket_part (at k v)) (omega arith) (omega arith) (omega arith) (omega arith) (λ m. omega arith) (λ m. omega arith) (λ m. omega arith) (λ m. omega arith) (λ e h. inl h)
      (λ all n op un q f. let f1 = f.cancelled in let b = blank_fits all n op un q (omega arith) in (
        record {
          side = resided n op un q (at k v) [] 0 0 (at k v).taken (at k v).filled f.side;
          tickets = b.tickets;
          filling = (omega arith);
          late = (omega arith);
          cancelled = (omega arith);
          given_up = f.given_up;
          dropped = f.dropped;
          filled = f.filled;
          taken = f.taken;
        },
        record {
          side = inr (record { none_ = refl; count = refl; asked = refl; settled = refl; taking = refl });
          tickets = f.tickets;
          filling = f.filling;
          late = f.late;
          cancelled = f.cancelled;
          given_up = b.given_up;
          dropped = b.dropped;
          filled = b.filled;
          taken = b.taken;
        },
      ))))

  -- so it is of a view that is the same
  pub tickets_split_at : (limits : List ℕ) (id : ℕ) (x v : View A) → x ≡ v → 0 < length v.callers → ((k : ℕ) → (at k v).filling ≡ 0) → Splits (Ruled limits) id x (without_tickets x) (only_tickets x)
  tickets_split_at limits id x v e some_caller idle = subst (λ (y : View A). Splits (Ruled limits) id y (without_tickets y) (only_tickets y)) (sym e) (tickets_split limits id v some_caller idle)

  -- a cell's part goes either way
  cut_either : (b : Bool) (z : Spot A) → Cell z.w z.home (set z.ps z.id (cond b blank z.p) ++ cond b z.p blank ∷ [])
  cut_either b z = cut_cell z (cond b blank z.p) (cond b z.p blank) (sums owns refl b) (sums unspent_in refl b) (sums held refl b) (sums (λ q. q.taking) refl b) (λ m. sums (λ q. times m q.taken) refl b) (λ m. sums (λ q. times m q.filled) refl b) (λ m. sums (λ q. among m q.given_up) refl b) (λ m. sums (λ q. among m q.dropped) refl b)
      (λ e h. either_in e b h) (λ all n op un q f. both_fit all n op un q f b)
    where
      sums : (f : Part A → ℕ) → f blank ≡ 0 → (b : Bool) → f (cond b blank z.p) + f (cond b z.p blank) ≡ f z.p
      sums f n true = omega arith
      sums f n false = omega arith

      either_in : (e : Fill A) (b : Bool) → IsIn e z.p.filled → IsIn e (cond b blank z.p).filled ⊎ IsIn e (cond b z.p blank).filled
      either_in e true h = inr h
      either_in e false h = inl h

      both_fit : (all : List (Part A)) (n op un : ℕ) (q : RequestId) → Fits all n op un q z.p → (b : Bool) → Fits all n op un q (cond b blank z.p) × Fits all n op un q (cond b z.p blank)
      both_fit all n op un q f true = let l = f.cancelled in (blank_fits all n op un q (omega arith), f)
      both_fit all n op un q f false = let l = f.cancelled in (f, blank_fits all n op un q (omega arith))

  -- each cell's part goes one way or the other
  pub parts_split : (limits : List ℕ) (id : ℕ) (v l m : View A) (test : ℕ → Bool) → length l.callers + length m.callers ≡ length v.callers → 0 < length l.callers → 0 < length m.callers
      → ((k : ℕ) → at k l ≡ cond (test k) blank (at k v)) → ((k : ℕ) → at k m ≡ cond (test k) (at k v) blank) → Splits (Ruled limits) id v l m
  parts_split limits id v l m test sum_ some_l some_m left_at right_at s r here = cuts limits s r id v l m here sum_ (λ n. absurd (omega arith)) (λ n. absurd (omega arith))
      (λ k c. subst (λ (y : Part A × Part A). Cell (get_or s.words k 0) (get_elem? s.homes k) (set (map (at k) s.views) id y.0 ++ y.1 ∷ []))
      (λ i. (sym (left_at k) i, sym (right_at k) i)) (cut_either (test k) (seen s id k v here c)))
