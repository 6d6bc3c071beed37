-- The seats of all callers in one, and the table at its end.
use Rattle.std.proofs.Common.{◌≡◌, ◌≢◌, ℕ, zero, suc, ◌+◌, ◌<◌, ◌≤◌, ◌==◌, Bool, List, [], ◌∷◌, ◌++◌, map, length, set, sym, refl, ap, ◌∙◌, subst, arith, length-append, append_assoc, None, inl, inr, ⊎_elim}
use Rattle.std.proofs.lemmas.List.Elements.{All-nil, All-cons, All-head, All-tail, All-weaker, All-append}
use Rattle.std.specs.List.{All, Contains, flat_map}
use mathlib.Core.Option.{none, some, some-injective, some-ne-none}
use mathlib.Core.Option as maybe
use lib.ListN.{get_elem?}
use Rattle.atomic_table.specs.Table.{Final, Seen}
use Rattle.atomic_table.proofs.Lists.{at_map}
use Rattle.xa_cell.specs.declared.cells.Cells.{Cells}
use Rattle.xa_cell.specs.declared.tokens.Seat.{Seat}
use Rattle.xa_cell.specs.declared.view.Fill.{Fill}
use Rattle.xa_cell.specs.declared.view.Part.{Part}
use Rattle.xa_cell.specs.declared.view.View.{View}
use Rattle.xa_cell.specs.Views.{at, nth, blank}
use Rattle.xa_cell.specs.Counts.{how_many, times, among}
use Rattle.xa_cell.specs.Known.{known, IsSeatOf}
use Rattle.xa_cell.specs.Places.{IsShut}
use Rattle.xa_cell.specs.Law.{parts_of, Answered}
use Rattle.xa_cell.specs.Dealing.{cells_in}
use Rattle.xa_cell.specs.Joined.{with, both}
use Rattle.xa_cell.specs.Gathered.{merged, Gathers}
use Rattle.xa_cell.specs.Rule.{total, IsIn, WasFilled, owns, held, Content, Idle, Ruled}
use Rattle.xa_cell.proofs.Lists.{decided, nth_with, blank_with, total_one, total_two, total_zero, total_set, at_each, in_left, in_right, in_either, how_many_append, All-none}
use Rattle.xa_cell.proofs.OneCell.{SlotOf, owner_side}
use Rattle.xa_cell.proofs.Lifting.{StateOf}

module _ {A : Type 0} where
  pub gathers_one : (s : Seat A) → Gathers (s ∷ []) (known s)
  gathers_one s = let one = s.caller.one in record { callers = (omega arith); parts = λ k. sym (blank_with (at k (known s))) }

  pub gathers_more : (s : Seat A) (ss : List (Seat A)) (v : View A) → Gathers ss v → Gathers (s ∷ ss) (both v (known s))
  gathers_more s ss v g = let one = s.caller.one in let n = g.callers in let l = length-append v.callers (known s).callers in record {
    callers = (omega arith);
    parts = λ k. nth_with v.parts (known s).parts k ∙ ap (λ (z : Part A). with z (at k (known s))) (g.parts k);
  }

  -- the seats that are gone, one more
  pub one_more : (xs ys gone all : List (Seat A)) (s : Seat A) → ys ≡ xs ++ s ∷ [] → ys ++ gone ≡ all → xs ++ (s ∷ gone) ≡ all
  one_more xs ys gone all s e h = sym (append_assoc xs (s ∷ []) gone) ∙ (ap (λ l. l ++ gone) (sym e) ∙ h)

  -- what is merged
  merged_many : {X : Type 0} (g : Part A → List X) (test : X → Bool) → g blank ≡ [] → ((p q : Part A) → g (with p q) ≡ g p ++ g q) → (ps : List (Part A)) → how_many test (g (merged ps)) ≡ how_many test (flat_map g ps)
  merged_many g test gb gw [] = ap (how_many test) gb
  merged_many g test gb gw (p ∷ ps) = let a = ap (how_many test) (gw (merged ps) p) in let b = how_many_append test (g (merged ps)) (g p) in let c = how_many_append test (g p) (flat_map g ps) in let r = merged_many g test gb gw ps in omega arith

  merged_times : (m : ℕ) (ps : List (Part A)) → times m (merged ps).filled ≡ times m (flat_map (λ p. p.filled) ps)
  merged_times m ps = merged_many (λ (p : Part A). p.filled) (λ e. e.opening.number == m) refl (λ p q. refl) ps

  merged_taken_times : (m : ℕ) (ps : List (Part A)) → times m (merged ps).taken ≡ times m (flat_map (λ p. p.taken) ps)
  merged_taken_times m ps = merged_many (λ (p : Part A). p.taken) (λ e. e.opening.number == m) refl (λ p q. refl) ps

  merged_given : (m : ℕ) (ps : List (Part A)) → among m (merged ps).given_up ≡ among m (flat_map (λ p. p.given_up) ps)
  merged_given m ps = merged_many (λ (p : Part A). p.given_up) (λ x. x == m) refl (λ p q. refl) ps

  merged_dropped : (m : ℕ) (ps : List (Part A)) → among m (merged ps).dropped ≡ among m (flat_map (λ p. p.dropped) ps)
  merged_dropped m ps = merged_many (λ (p : Part A). p.dropped) (λ x. x == m) refl (λ p q. refl) ps

  merged_taken : (P : Fill A → Type 0) (ps : List (Part A)) → All P (merged ps).taken → All P (flat_map (λ p. p.taken) ps)
  merged_taken P [] h = All-nil P
  merged_taken P (p ∷ ps) h = let two = cut (merged ps).taken p.taken h in All-append P p.taken (flat_map (λ (q : Part A). q.taken) ps) two.1 (merged_taken P ps two.0)
    where
      cut : (xs ys : List (Fill A)) → All P (xs ++ ys) → All P xs × All P ys
      cut [] ys h = (All-nil P, h)
      cut (x ∷ xs) ys h = let r = cut xs ys (All-tail P x (xs ++ ys) h) in (All-cons P x xs (All-head P x (xs ++ ys) h) r.0, r.1)

  merged_filled : (ps : List (Part A)) (e : Fill A) → IsIn e (merged ps).filled → IsIn e (flat_map (λ p. p.filled) ps)
  merged_filled [] e h = absurd h
  merged_filled (p ∷ ps) e h = ⊎_elim (λ (a : IsIn e (merged ps).filled). in_right e p.filled (flat_map (λ (q : Part A). q.filled) ps) (merged_filled ps e a)) (λ (b : IsIn e p.filled). in_left e p.filled (flat_map (λ (q : Part A). q.filled) ps) b) (in_either e (merged ps).filled p.filled h)

  merged_shut : (k : ℕ) (ss : List (Seat A)) → All IsShut ss → length (merged (parts_of k ss)).asked ≡ 0
  merged_shut k [] h = refl
  merged_shut k (s ∷ ss) h = let r = merged_shut k ss (All-tail IsShut s ss h) in let here = ap length ((All-head IsShut s ss h).asked k) in let l = length-append (merged (parts_of k ss)).asked (at k (known s)).asked in omega arith

  merged_calm : (k : ℕ) (ss : List (Seat A)) → held (merged (parts_of k ss)) ≡ 0
  merged_calm k [] = refl
  merged_calm k (s ∷ ss) = let r = merged_calm k ss in let c = s.caller.calm k in let a = c.filling in let b = c.taking in omega arith

  in_contains : (e : Fill A) (xs : List (Fill A)) → IsIn e xs → Contains xs e
  in_contains e [] h = absurd h
  in_contains e (x ∷ xs) (inl h) = (0, omega arith, h)
  in_contains e (x ∷ xs) (inr h) = let r = in_contains e xs h in (suc r.0, (let lt = r.1 in omega arith), r.2)

  -- one view has all callers, so the others have neither taken nor filled
  module _ (limits : List ℕ) (s : StateOf A) (r : Ruled limits s) (id : ℕ) (v : View A) (here : get_elem? s.views id ≡ some v) (all : length v.callers ≡ length limits) where
    idle : (k j : ℕ) (u : View A) → j ≢ id → get_elem? s.views j ≡ some u → Idle (at k u)
    idle k j u ne e = let two = total_two (λ (z : View A). length z.callers) s.views id j v u (λ h. ne (sym h)) here e in let sum_ = r.callers in r.each j u e (omega arith) k

    -- of the parts of a cell too
    part_idle : (k j : ℕ) (q : Part A) → j ≢ id → get_elem? (map (at k) s.views) j ≡ some q → Idle q
    part_idle k j q ne e = let u = from s.views j e in subst Idle u.2 (idle k j u.0 ne u.1)
      where
        from : (l : List (View A)) (i : ℕ) → get_elem? (map (at k) l) i ≡ some q → (u : View A) × (get_elem? l i ≡ some u) × (at k u ≡ q)
        from [] i h = absurd (some-ne-none q (sym h))
        from (x ∷ xs) zero h = (x, refl, some-injective (at k x) q h)
        from (x ∷ xs) (suc i) h = from xs i h

    only_filled : (k : ℕ) (e : Fill A) → WasFilled (map (at k) s.views) e → IsIn e (at k v).filled
    only_filled k e h = walk (map (at k) s.views) id (at_map (at k) s.views id v here) (λ j q ne g. (part_idle k j q ne g).1) h
      where
        none_ : (ps : List (Part A)) → ((j : ℕ) (q : Part A) → get_elem? ps j ≡ some q → q.filled ≡ []) → WasFilled ps e → ⊥
        none_ [] f w = w
        none_ (p ∷ ps) f (inl w) = subst (IsIn e) (f 0 p refl) w
        none_ (p ∷ ps) f (inr w) = none_ ps (λ j q g. f (suc j) q g) w

        walk : (ps : List (Part A)) (i : ℕ) → get_elem? ps i ≡ some (at k v) → ((j : ℕ) (q : Part A) → j ≢ i → get_elem? ps j ≡ some q → q.filled ≡ []) → WasFilled ps e → IsIn e (at k v).filled
        walk [] i g f w = absurd w
        walk (p ∷ ps) zero g f (inl w) = subst (λ (z : Part A). IsIn e z.filled) (some-injective p (at k v) g) w
        walk (p ∷ ps) zero g f (inr w) = absurd (none_ ps (λ j q x. f (suc j) q (λ z. omega arith) x) w)
        walk (p ∷ ps) (suc i) g f (inl w) = absurd (subst (IsIn e) (f 0 p (λ z. omega arith) refl) w)
        walk (p ∷ ps) (suc i) g f (inr w) = walk ps i g (λ j q ne x. f (suc j) q (λ z. ne (omega arith)) x) w

    -- so what all parts of a cell have is what this one has
    all_here : (k : ℕ) (f : Part A → ℕ) → f blank ≡ 0 → ((q : Part A) → Idle q → f q ≡ 0) → total f (map (at k) s.views) ≡ f (at k v)
    all_here k f none_ idle_none = let ps : List (Part A) = map (at k) s.views in
        let none_else : total f (set ps id blank) ≡ 0 = total_zero f (set ps id blank) (at_each (λ (z : Part A). f z ≡ 0) ps id blank none_ (λ j q ne e. idle_none q (part_idle k j q ne e))) in
        let sum_ = total_set f ps id (at k v) blank (at_map (at k) s.views id v here) in omega arith

    -- where no place is open the cell isn't
    closed : (k : ℕ) (ss : List (Seat A)) (lt : k < cells_in limits) → Gathers ss v → All IsShut ss → (r.cell k lt).open_ ≡ 0
    closed k ss lt g shut = let c = r.cell k lt in let ps : List (Part A) = map (at k) s.views in let p_here = at_map (at k) s.views id v here in
        let shut' : length (at k v).asked ≡ 0 = ap (λ (z : Part A). length z.asked) (g.parts k) ∙ merged_shut k ss shut in
        let one = c.one_owner in let own = all_here k owns refl (λ q o. o.3) in
        let o = owner_side ps c.n c.open_ c.unspent c.q (at k v) (omega arith) (c.each id (at k v) p_here) in let asked = o.asked in omega arith

    answered : (k : ℕ) (ss : List (Seat A)) → k < cells_in limits → Gathers ss v → All IsShut ss → Answered k ss
    answered k ss lt g shut =
        let c = r.cell k lt in let ps : List (Part A) = map (at k) s.views in let p_here = at_map (at k) s.views id v here in let fits = c.each id (at k v) p_here in let is = g.parts k in
        let P : Fill A → Type 0 = λ e. Contains (flat_map (λ p. p.filled) (parts_of k ss)) e in
        let filled_there : (e : Fill A) → WasFilled ps e → P e = λ e w. in_contains e (flat_map (λ p. p.filled) (parts_of k ss)) (merged_filled (parts_of k ss) e (subst (λ (z : Part A). IsIn e z.filled) is (only_filled k e w))) in record {
          taken = merged_taken P (parts_of k ss) (subst (λ (z : Part A). All P z.taken) is (All-weaker (WasFilled ps) P filled_there (at k v).taken fits.taken));
          once = λ m. let one = total_one (λ (z : Part A). times m z.filled) ps id (at k v) p_here in let two = total_one (λ (z : Part A). among m z.given_up) ps id (at k v) p_here in let most = c.filled_once m in
              let t = merged_times m (parts_of k ss) in let u = merged_given m (parts_of k ss) in
              let same : times m (at k v).filled ≡ times m (merged (parts_of k ss)).filled = ap (λ (z : Part A). times m z.filled) is in
              let same' : among m (at k v).given_up ≡ among m (merged (parts_of k ss)).given_up = ap (λ (z : Part A). among m z.given_up) is in omega arith;
          all = λ m. let a = all_here k (λ (z : Part A). times m z.taken) refl (λ q o. ap (times m) o.0) in let b = all_here k (λ (z : Part A). times m z.filled) refl (λ q o. ap (times m) o.1) in
              let ta = ap (λ (z : Part A). times m z.taken) is ∙ merged_taken_times m (parts_of k ss) in let tb = ap (λ (z : Part A). times m z.filled) is ∙ merged_times m (parts_of k ss) in
              let w = c.waiting in let here' = w.here in let none_ = w.none_waits (let op = closed k ss lt g shut in omega arith) in
              ⊎_elim (λ (em : m ≡ c.n). let ea = ap (λ (i : ℕ). total (λ (z : Part A). times i z.taken) ps) em in let eb = ap (λ (i : ℕ). total (λ (z : Part A). times i z.filled) ps) em in
              let y : times m (flat_map (λ p. p.taken) (parts_of k ss)) ≡ times m (flat_map (λ p. p.filled) (parts_of k ss)) = omega arith in y)
              (λ (ne : m ≢ c.n). let e = w.before m ne in let y : times m (flat_map (λ p. p.taken) (parts_of k ss)) ≡ times m (flat_map (λ p. p.filled) (parts_of k ss)) = omega arith in y) (decided m c.n);
          dropped = λ m. let all_given = all_here k (λ (z : Part A). among m z.given_up) refl (λ q o. ap (among m) o.4) in let one = total_one (λ (z : Part A). among m z.dropped) ps id (at k v) p_here in let most = c.dropped m in
              let t = merged_dropped m (parts_of k ss) in let u = merged_given m (parts_of k ss) in
              let same : among m (at k v).dropped ≡ among m (merged (parts_of k ss)).dropped = ap (λ (z : Part A). among m z.dropped) is in
              let same' : among m (at k v).given_up ≡ among m (merged (parts_of k ss)).given_up = ap (λ (z : Part A). among m z.given_up) is in omega arith;
        }

    -- each slot is at home and empty
    emptied : (k : ℕ) (ss : List (Seat A)) → k < cells_in limits → Gathers ss v → All IsShut ss → get_elem? s.homes k ≡ some (some None)
    emptied k ss lt g shut =
        let c = r.cell k lt in let ps : List (Part A) = map (at k) s.views in let p_here = at_map (at k) s.views id v here in let is = g.parts k in
        let calm : held (at k v) ≡ 0 = ap held is ∙ merged_calm k ss in let all_held = all_here k held refl (λ q o. o.2) in let none_has : total held ps ≡ 0 = omega arith in let op = closed k ss lt g shut in
        ⊎_elim (λ (h : (total held ps ≡ 0) × ((x : SlotOf A) × (get_elem? s.homes k ≡ some (some x)) × Content ps c.n c.open_ c.unspent c.q x)).
        h.1.1 ∙ ap (λ (z : SlotOf A). let y : maybe.Option (maybe.Option (SlotOf A)) = some (some z) in y) (h.1.2.closed op))
        (λ (h : total held ps ≡ 1). absurd (omega arith)) c.slot

  -- what the table is at its end
  pub ends : (limits : List ℕ) (id : ℕ) (v : View A) (ws : List ℕ) (xs : List (SlotOf A)) (ss : List (Seat A)) → Final (Seen (Ruled limits) id v) ws xs → length ss ≡ length limits → Gathers ss v → All IsShut ss
      → ((k : ℕ) → k < cells_in limits → Answered k ss) × ((k : ℕ) → k < cells_in limits → get_elem? xs k ≡ some None)
  ends limits id v ws xs ss f n g shut = let all = g.callers ∙ n in (
    (λ k lt. answered limits f.0 f.1.0 id v f.1.1 all k ss lt g shut),
    λ k lt. f.4 k None (emptied limits f.0 f.1.0 id v f.1.1 all k ss lt g shut),
  )

  nth_past : (ps : List (Part A)) (k : ℕ) → length ps ≤ k → nth ps k ≡ blank
  nth_past [] k le = refl
  nth_past (p ∷ ps) zero le = absurd (omega arith)
  nth_past (p ∷ ps) (suc k) le = nth_past ps k (omega arith)

  blank_flat : {X : Type 0} (g : Part A → List X) → g blank ≡ [] → (k : ℕ) (ss : List (Seat A)) → All (λ s. at k (known s) ≡ blank) ss → flat_map g (parts_of k ss) ≡ []
  blank_flat g gb k [] h = refl
  blank_flat g gb k (s ∷ ss) h = let here = ap g (All-head (λ (t : Seat A). at k (known t) ≡ blank) s ss h) ∙ gb in let r = blank_flat g gb k ss (All-tail (λ (t : Seat A). at k (known t) ≡ blank) s ss h) in λ i. here i ++ r i

  -- of what is no cell nothing is known
  pub answered_past : (cells : Cells A) (k : ℕ) (ss : List (Seat A)) → cells.table.shared.table_id.words ≤ k → All (IsSeatOf cells) ss → Answered k ss
  answered_past cells k ss past of_these =
      let blanks = All-weaker (IsSeatOf cells) (λ (s : Seat A). at k (known s) ≡ blank) (λ s e. let words = ap (λ t. t.words) e in let wide = s.caller.wide in nth_past (known s).parts k (omega arith)) ss of_these in record {
        taken = All-none (λ (e : Fill A). Contains (flat_map (λ p. p.filled) (parts_of k ss)) e) (flat_map (λ p. p.taken) (parts_of k ss)) (ap length (blank_flat (λ (p : Part A). p.taken) refl k ss blanks));
        once = λ m. let a = ap (times m) (blank_flat (λ (p : Part A). p.filled) refl k ss blanks) in let b = ap (among m) (blank_flat (λ (p : Part A). p.given_up) refl k ss blanks) in omega arith;
        all = λ m. ap (times m) (blank_flat (λ (p : Part A). p.taken) refl k ss blanks) ∙ sym (ap (times m) (blank_flat (λ (p : Part A). p.filled) refl k ss blanks));
        dropped = λ m. let a = ap (among m) (blank_flat (λ (p : Part A). p.dropped) refl k ss blanks) in let b = ap (among m) (blank_flat (λ (p : Part A). p.given_up) refl k ss blanks) in omega arith;
      }
