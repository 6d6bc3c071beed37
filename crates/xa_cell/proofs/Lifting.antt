-- A step on the table changes one cell, and of the views one part of one.
use Rattle.std.proofs.Common.{◌≡◌, ◌≢◌, ℕ, ◌+◌, ◌<◌, ◌==◌, Bool, List, [], ◌∷◌, map, length, get_or, set, sym, refl, ap, ◌∙◌, subst, arith, length-set, get_or-set_same, get_or-set_other, Option, ⊎_elim, eq-eqb, ne_eqb}
use mathlib.Core.Option.{none, some}
use mathlib.Core.Option as maybe
use prog.Atomic.{either}
use lib.ListN.{get_elem?}
use Rattle.atomic_table.specs.Table.{State, Me, Allows}
use Rattle.atomic_table.proofs.Lists.{at_map, set_here, set_else, set_again}
use Rattle.xa_cell.specs.declared.view.Deed.{Deed}
use Rattle.xa_cell.specs.declared.view.Part.{Part}
use Rattle.xa_cell.specs.declared.view.View.{View}
use Rattle.xa_cell.specs.declared.view.Carried.{Carried}
use Rattle.xa_cell.specs.Views.{at}
use Rattle.xa_cell.specs.Dealing.{cells_in}
use Rattle.xa_cell.specs.Rule.{held, Cell, Idle, OfCallers, Ruled}
use Rattle.xa_cell.proofs.Lists.{decided, total_set, at_each, map_set, nth_set, nth_else}
use Rattle.xa_cell.proofs.OneCell.{SlotOf, HomeOf, Spot}

abbrev pub StateOf : Type 0 → Type 0
StateOf A = State (Option (Carried A)) (View A)

-- what a seat knows and has
abbrev pub MineOf : Type 0 → Type 0
MineOf A = Me (Option (Carried A)) (View A)

-- a step of the seat whose view v is the one with that number, on the word k
pub record Site (A : Type 0) : Type 0 where
  pub limits : List ℕ
  pub id : ℕ
  pub k : ℕ
  pub v : View A
  pub inside : k < cells_in limits
  pub long : k < length v.parts
  pub s : StateOf A
  pub r : Ruled limits s
  pub here : get_elem? s.views id ≡ some v

module _ {A : Type 0} where
  -- a view with another part of the cell k
  abbrev pub viewed : View A → ℕ → Part A → List Deed → View A
  viewed v k p ds = record { callers = v.callers; parts = set v.parts k p; deeds = ds }

  -- what holds of a seat holds of one that is the same
  pub at_seat : (limits : List ℕ) (slots id k : ℕ) (f : ℕ → ℕ) (then : MineOf A → ℕ → MineOf A → Type 0) (m n : MineOf A) → m ≡ n
      → Allows (Ruled limits) slots id n k f (then n) → Allows (Ruled limits) slots id m k f (then m)
  at_seat limits slots id k f then m n e a = subst (λ (z : MineOf A). Allows (Ruled limits) slots id z k f (then z)) (sym e) a

  module _ (z : Site A) where
    -- the word that is stepped on
    abbrev pub word_at : ℕ
    word_at = get_or z.s.words z.k 0

    abbrev pub part_at : Part A
    part_at = at z.k z.v

    -- the table behind the step
    abbrev pub After : ℕ → Part A → List Deed → List (maybe.Option (SlotOf A)) → Type 0
    After y p' ds homes' = Ruled z.limits (record { words = set z.s.words z.k y; homes = homes'; views = set z.s.views z.id (viewed z.v z.k p' ds) })

    -- the cell that is stepped on
    abbrev pub spot : Spot A
    spot = record { w = word_at; home = get_elem? z.s.homes z.k; ps = map (at z.k) z.s.views; c = z.r.cell z.k z.inside; id = z.id; p = part_at; here = at_map (at z.k) z.s.views z.id z.v z.here }

    lift : (x : ℕ) (p' : Part A) (ds : List Deed) (homes' : List (maybe.Option (SlotOf A))) → (length z.v.callers ≡ 0 → Idle p') → length homes' ≡ length z.s.homes → ((j : ℕ) → j ≢ z.k → get_elem? homes' j ≡ get_elem? z.s.homes j)
        → Cell x (get_elem? homes' z.k) (set (map (at z.k) z.s.views) z.id p') → After x p' ds homes'
    lift x p' ds homes' none_ deep' else_ c =
        let s = z.s in let r = z.r in let id = z.id in let k = z.k in let v = z.v in
        let w : View A = viewed v k p' ds in
        let mine : at k w ≡ p' = nth_set v.parts k p' z.long in
        let here_word : get_or (set s.words k x) k 0 ≡ x = get_or-set_same s.words k x 0 (let a = r.wide in let b = z.inside in omega arith) in
        let this : Cell (get_or (set s.words k x) k 0) (get_elem? homes' k) (map (at k) (set s.views id w)) =
        (let col : map (at k) (set s.views id w) ≡ set (map (at k) s.views) id p' = map_set (at k) s.views id w ∙ ap (λ (q : Part A). set (map (at k) s.views) id q) mine in
        subst (λ (y : ℕ × List (Part A)). Cell y.0 (get_elem? homes' k) y.1) (λ i. (sym here_word i, sym col i)) c) in
        let that : (j : ℕ) → j ≢ k → j < cells_in z.limits → Cell (get_or (set s.words k x) j 0) (get_elem? homes' j) (map (at j) (set s.views id w)) =
        (λ j ne lt. let same_word : get_or (set s.words k x) j 0 ≡ get_or s.words j 0 = get_or-set_other s.words k j x 0 ne in
        let col : map (at j) (set s.views id w) ≡ map (at j) s.views = map_set (at j) s.views id w ∙ (ap (λ (q : Part A). set (map (at j) s.views) id q) (nth_else v.parts k j p' ne) ∙ set_again (map (at j) s.views) id (at j v) (at_map (at j) s.views id v z.here)) in
        subst (λ (y : ℕ × HomeOf A × List (Part A)). Cell y.0 y.1 y.2) (λ i. (sym same_word i, sym (else_ j ne) i, sym col i)) (r.cell j lt)) in record {
          wide = length-set s.words k x ∙ r.wide;
          deep = deep' ∙ r.deep;
          callers = (let t = total_set (λ (y : View A). length y.callers) s.views id v w z.here in let a = r.callers in omega arith);
          each = at_each OfCallers s.views id w
              (λ n j. ⊎_elim (λ (e : j ≡ k). subst Idle (sym (ap (λ (i : ℕ). at i w) e ∙ mine)) (none_ n))
              (λ (ne : j ≢ k). subst Idle (sym (nth_else v.parts k j p' ne)) (r.each id v z.here n j)) (decided j k))
              (λ j u ne e. r.each j u e);
          cell = λ j lt. ⊎_elim (λ (e : j ≡ k). subst (λ (i : ℕ). Cell (get_or (set s.words k x) i 0) (get_elem? homes' i) (map (at i) (set s.views id w))) (sym e) this)
              (λ (ne : j ≢ k). that j ne lt) (decided j k);
        }

    -- the slots stay where they are
    pub kept : (y : ℕ) (p' : Part A) (ds : List Deed) → p'.taken ≡ part_at.taken → p'.filled ≡ part_at.filled → p'.owners ≡ part_at.owners → (Idle part_at → (held p' ≡ 0) × (p'.given_up ≡ []))
        → Cell y (get_elem? z.s.homes z.k) (set (map (at z.k) z.s.views) z.id p') → After y p' ds z.s.homes
    kept y p' ds et ef eo eh cell = lift y p' ds z.s.homes (λ n. let o = z.r.each z.id z.v z.here n z.k in (et ∙ o.0, ef ∙ o.1, (eh o).0, ap length eo ∙ o.3, (eh o).1)) refl (λ j ne. refl) cell

    -- the slot goes out with the seat
    pub out : (p' : Part A) (ds : List Deed) → (length z.v.callers ≡ 0 → Idle p') → ((h : HomeOf A) → Cell word_at h (set (map (at z.k) z.s.views) z.id p')) → After word_at p' ds (set z.s.homes z.k none)
    out p' ds none_ cell = lift word_at p' ds (set z.s.homes z.k none) none_ (length-set z.s.homes z.k none) (λ j ne. set_else z.s.homes z.k j none ne) (cell (get_elem? (set z.s.homes z.k none) z.k))

    -- it comes back
    pub back : (y : ℕ) (o : SlotOf A) (p' : Part A) (ds : List Deed) → (length z.v.callers ≡ 0 → Idle p') → ((h : HomeOf A) → h ≡ some (some o) → Cell y h (set (map (at z.k) z.s.views) z.id p')) → After y p' ds (set z.s.homes z.k (some o))
    back y o p' ds none_ cell = lift y p' ds (set z.s.homes z.k (some o)) none_ (length-set z.s.homes z.k (some o)) (λ j ne. set_else z.s.homes z.k j (some o) ne)
        (cell (get_elem? (set z.s.homes z.k (some o)) z.k) (set_here z.s.homes z.k (some o) (let a = z.r.deep in let b = z.inside in omega arith)))

    -- a seat that is of no caller
    pub of_none : length z.v.callers ≡ 0 → Idle part_at
    of_none n = z.r.each z.id z.v z.here n z.k

    -- the two ends of a compare and exchange
    pub becomes : (F : ℕ → Type 0) (old new : ℕ) → word_at ≡ old → F new → F (either (word_at == old) new word_at)
    becomes F old new e h = subst (λ (b : Bool). F (either b new word_at)) (sym (eq-eqb word_at old e)) h

    pub stays : (F : ℕ → Type 0) (old new : ℕ) → word_at ≢ old → F word_at → F (either (word_at == old) new word_at)
    stays F old new ne h = subst (λ (b : Bool). F (either b new word_at)) (sym (ne_eqb word_at old ne)) h
