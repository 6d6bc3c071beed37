-- The table at the start, and how its cells are dealt out.
use Rattle.std.proofs.Common.{◌≡◌, ◌≢◌, ℕ, zero, suc, ◌+◌, ◌-◌, ◌*◌, ◌<◌, ◌≤◌, ◌==◌, Bool, true, false, cond, List, [], ◌∷◌, map, length, get_or, drop, replicate, sym, refl, ap, ◌∙◌, subst, arith, None, ◌⊎◌, inl, inr, ⊎_elim, eq-eqb, ne_eqb}
use Rattle.std.proofs.lemmas.List.{length-map, get_or-replicate, length-replicate}
use Rattle.std.proofs.lemmas.List.Elements.{All-nil, All-head, All-tail}
use Rattle.std.specs.List.{All}
use mathlib.Core.Option.{some, some-injective, some-ne-none}
use mathlib.Core.Option as maybe
use lib.ListN.{get_elem?}
use Rattle.atomic_table.specs.Table.{opening as at_start, Splits}
use Rattle.xa_types.specs.declared.ids.RequestId.{RequestId}
use Rattle.xa_cell.specs.declared.view.Opening.{Opening}
use Rattle.xa_cell.specs.declared.view.Fill.{Fill}
use Rattle.xa_cell.specs.declared.view.Part.{Part}
use Rattle.xa_cell.specs.declared.view.View.{View}
use Rattle.xa_cell.specs.Views.{opening, nth, at, blank}
use Rattle.xa_cell.specs.Known.{IsNew}
use Rattle.xa_cell.specs.Dealing.{cells_in, callers_from, first_or, fresh, rows, rows_from, pad, left_over, whole, mine_part, other_part, first_only, but_first}
use Rattle.xa_cell.specs.Rule.{WasFilled, owns, held, Fits, Cell, OfCallers, Ruled}
use Rattle.xa_cell.specs.Tokens.{IsCaller}
use Rattle.xa_cell.proofs.Lists.{below, nth_map}
use Rattle.xa_cell.proofs.OneCell.{SlotOf}
use Rattle.xa_cell.proofs.SplitStep.{parts_split}

-- the request of a cell that was never opened
abbrev nobody : RequestId
nobody = record { caller = record { 0 = 0 }; number = 0 }

callers_length : (c : ℕ) (ns : List ℕ) → length (callers_from c ns) ≡ length ns
callers_length c [] = refl
callers_length c (n ∷ ns) = let r = callers_length (suc c) ns in omega arith

length_rows : (A : Type 0) (c n : ℕ) (ps : List (Part A)) → length (rows c n ps) ≡ n + length ps
length_rows A c zero ps = omega arith
length_rows A c (suc n) ps = let r = length_rows A c n ps in omega arith

length_from : (A : Type 0) (c : ℕ) (ns : List ℕ) → length (rows_from {A = A} c ns) ≡ cells_in ns
length_from A c [] = refl
length_from A c (n ∷ ns) = let r = length_from A (suc c) ns in let l = length_rows A c n (rows_from (suc c) ns) in omega arith

module _ {A : Type 0} where
  -- of the cell nothing is known but whose it is, and that no ticket of it is unspent
  abbrev Unused : Part A → Type 0
  Unused p = p ≡ record blank { owners = p.owners; settled = p.settled }

  unused_rows : (c n : ℕ) (ps : List (Part A)) → ((k : ℕ) → Unused (nth ps k)) → (k : ℕ) → Unused (nth (rows c n ps) k)
  unused_rows c zero ps h k = h k
  unused_rows c (suc n) ps h zero = refl
  unused_rows c (suc n) ps h (suc k) = unused_rows c n ps h k

  unused_from : (c : ℕ) (ns : List ℕ) (k : ℕ) → Unused (nth (rows_from c ns) k)
  unused_from c [] k = refl
  unused_from c (n ∷ ns) k = unused_rows c n (rows_from (suc c) ns) (unused_from (suc c) ns) k

  unused_pad : (s : ℕ) (ps : List (Part A)) → ((k : ℕ) → Unused (nth ps k)) → (k : ℕ) → Unused (nth (pad s ps) k)
  unused_pad zero ps h k = h k
  unused_pad (suc s) ps h zero = refl
  unused_pad (suc s) ps h (suc k) = unused_pad s ps h k

  unused_cond : (b : Bool) (p : Part A) → Unused p → Unused (cond b p blank)
  unused_cond true p h = h
  unused_cond false p h = refl

  blank_cond : (b : Bool) → cond b blank blank ≡ blank {A = A}
  blank_cond true = refl
  blank_cond false = refl

  length_pad : (s : ℕ) (ps : List (Part A)) → length (pad s ps) ≡ s + length ps
  length_pad zero ps = omega arith
  length_pad (suc s) ps = let r = length_pad s ps in omega arith

  rows_here : (c n k : ℕ) (ps : List (Part A)) → k < n → nth (rows c n ps) k ≡ fresh c
  rows_here c zero k ps lt = absurd (omega arith)
  rows_here c (suc n) zero ps lt = refl
  rows_here c (suc n) (suc k) ps lt = rows_here c n k ps (omega arith)

  pad_here : (s k : ℕ) (c n : ℕ) (ps : List (Part A)) → s ≤ k → k < s + n → nth (pad s (rows c n ps)) k ≡ fresh c
  pad_here zero k c n ps low high = rows_here c n k ps (omega arith)
  pad_here (suc s) zero c n ps low high = absurd (omega arith)
  pad_here (suc s) (suc k) c n ps low high = pad_here s k c n ps (omega arith) (omega arith)

  rows_beyond : (c n k : ℕ) (ps : List (Part A)) → nth (rows c n ps) (n + k) ≡ nth ps k
  rows_beyond c zero k ps = let e : 0 + k ≡ k = omega arith in ap (nth ps) e
  rows_beyond c (suc n) k ps = let e : suc n + k ≡ suc (n + k) = omega arith in ap (nth (rows c (suc n) ps)) e ∙ rows_beyond c n k ps

  -- each cell has an owner
  owned : (c : ℕ) (ns : List ℕ) (k : ℕ) → k < cells_in ns → (d : ℕ) × (nth {A = A} (rows_from c ns) k ≡ fresh d)
  owned c [] k lt = absurd (omega arith)
  owned c (n ∷ ns) k lt = ⊎_elim (λ (h : k < n). (c, rows_here c n k (rows_from (suc c) ns) h))
      (λ (h : n ≤ k). let r = owned (suc c) ns (k - n) (omega arith) in let e : k ≡ n + (k - n) = omega arith in (r.0, ap (nth (rows c n (rows_from (suc c) ns))) e ∙ (rows_beyond c n (k - n) (rows_from (suc c) ns) ∙ r.1))) (below k n)

  -- the cells of one caller go to it
  other_rows : (i n : ℕ) (ps : List (Part A)) → map (other_part i) (rows i n ps) ≡ pad n (map (other_part i) ps)
  other_rows i zero ps = refl
  other_rows i (suc n) ps = let e : other_part i (fresh {A = A} i) ≡ blank = ap (λ b. cond b blank (fresh i)) (eq-eqb i i refl) in λ j. e j ∷ other_rows i n ps j

  other_pad : (i s : ℕ) (ps : List (Part A)) → map (other_part i) (pad s ps) ≡ pad s (map (other_part i) ps)
  other_pad i zero ps = refl
  other_pad i (suc s) ps = λ j. blank_cond (suc i == i) j ∷ other_pad i s ps j

  other_kept : (i c n : ℕ) (ps : List (Part A)) → i < c → map (other_part i) (rows c n ps) ≡ rows c n (map (other_part i) ps)
  other_kept i c zero ps lt = refl
  other_kept i c (suc n) ps lt = let e : other_part i (fresh {A = A} c) ≡ fresh c = ap (λ b. cond b blank (fresh c)) (ne_eqb c i (λ h. omega arith)) in λ j. e j ∷ other_kept i c n ps lt j

  other_from : (i c : ℕ) (ns : List ℕ) → i < c → map (other_part {A = A} i) (rows_from c ns) ≡ rows_from c ns
  other_from i c [] lt = refl
  other_from i c (n ∷ ns) lt = other_kept i c n (rows_from (suc c) ns) lt ∙ ap (rows c n) (other_from i (suc c) ns (omega arith))

  pad_pad : (s n : ℕ) (ps : List (Part A)) → pad s (pad n ps) ≡ pad (s + n) ps
  pad_pad zero n ps = let e : n ≡ 0 + n = omega arith in ap (λ m. pad m ps) e
  pad_pad (suc s) n ps = let e : suc (s + n) ≡ suc s + n = omega arith in ap (λ l. blank ∷ l) (pad_pad s n ps) ∙ ap (λ m. pad m ps) e

  -- what is left once one more caller has its cells
  pub left_of : (i first n : ℕ) (ns : List ℕ) → but_first (left_over {A = A} i first (n ∷ ns)) ≡ left_over (i + 1) (first + n) ns
  left_of i first n ns = let parts : map (other_part {A = A} i) (pad first (rows_from i (n ∷ ns))) ≡ pad (first + n) (rows_from (suc i) ns) =
      other_pad i first (rows_from i (n ∷ ns)) ∙ (ap (pad first) (other_rows i n (rows_from (suc i) ns) ∙ ap (pad n) (other_from i (suc i) ns (omega arith))) ∙ pad_pad first n (rows_from (suc i) ns)) in
      let e : suc i ≡ i + 1 = omega arith in
      (λ j. record { callers = callers_from (suc i) ns; parts = parts j; deeds = [] }) ∙ ap (λ c. left_over c (first + n) ns) e

  mine_fresh : (i : ℕ) → mine_part i (fresh {A = A} i) ≡ fresh i
  mine_fresh i = ap (λ b. cond b (fresh i) blank) (eq-eqb i i refl)

  -- a view of one caller that has done nothing
  caller_of : (first n cells c : ℕ) (v : View A) → length v.callers ≡ 1 → length v.parts ≡ cells → first + n ≤ cells → ((k : ℕ) → first ≤ k → k < first + n → at k v ≡ fresh c) → ((k : ℕ) → Unused (at k v)) → IsCaller first n cells v
  caller_of first n cells c v one wide room own unused = record {
    one = one;
    wide = wide;
    room = room;
    own = λ k low high. ap owns (own k low high);
    mine = λ k h. let none_ = ap (λ (p : Part A). length p.asked) (unused k) in absurd (omega arith);
    few = λ k. let none_ = ap (λ (p : Part A). length p.asked) (unused k) in omega arith;
    calm = λ k. let u = unused k in record { tickets = ap (λ (p : Part A). length p.tickets) u; filling = ap (λ (p : Part A). p.filling) u; taking = ap (λ (p : Part A). p.taking) u; late = ap (λ (p : Part A). p.late) u };
  }

  new_of : (first n c : ℕ) (v : View A) → v.deeds ≡ [] → ((k : ℕ) → first ≤ k → k < first + n → at k v ≡ fresh c) → ((k : ℕ) → Unused (at k v)) → IsNew first n v
  new_of first n c v none_ own unused = record { deeds = none_; parts = unused; own = λ k low high. ap (λ (p : Part A). p.settled) (own k low high) }

  module _ (i first n : ℕ) (ns : List ℕ) where
    dealt_unused : (k : ℕ) → Unused (at k (first_only (left_over {A = A} i first (n ∷ ns))))
    dealt_unused k = let ps = pad first (rows_from {A = A} i (n ∷ ns)) in
        subst Unused (sym (nth_map (mine_part i) ps k (blank_cond (suc i == i)))) (unused_cond (first_or (suc i) (nth ps k).owners == i) (nth ps k) (unused_pad first (rows_from i (n ∷ ns)) (unused_from i (n ∷ ns)) k))

    dealt_own : (k : ℕ) → first ≤ k → k < first + n → at k (first_only (left_over {A = A} i first (n ∷ ns))) ≡ fresh i
    dealt_own k low high = nth_map (mine_part i) (pad first (rows_from i (n ∷ ns))) k (blank_cond (suc i == i)) ∙ (ap (mine_part i) (pad_here first k i n (rows_from (suc i) ns) low high) ∙ mine_fresh i)

    pub dealt_caller : (cells : ℕ) → first + cells_in (n ∷ ns) ≡ cells → IsCaller first n cells (first_only (left_over {A = A} i first (n ∷ ns)))
    dealt_caller cells sum_ = let ps = pad first (rows_from {A = A} i (n ∷ ns)) in let l = length-map ps (mine_part {A = A} i) in let a = length_pad first (rows_from {A = A} i (n ∷ ns)) in let b = length_from A i (n ∷ ns) in
        caller_of first n cells i (first_only (left_over i first (n ∷ ns))) refl (omega arith) (omega arith) dealt_own dealt_unused

    pub dealt_new : IsNew first n (first_only (left_over {A = A} i first (n ∷ ns)))
    dealt_new = new_of first n i (first_only (left_over i first (n ∷ ns))) refl dealt_own dealt_unused

  module _ (i first n : ℕ) where
    last_own : (k : ℕ) → first ≤ k → k < first + n → at k (left_over {A = A} i first (n ∷ [])) ≡ fresh i
    last_own k low high = pad_here first k i n [] low high

    last_unused : (k : ℕ) → Unused (at k (left_over {A = A} i first (n ∷ [])))
    last_unused = unused_pad first (rows_from i (n ∷ [])) (unused_from i (n ∷ []))

    pub last_caller : (cells : ℕ) → first + cells_in (n ∷ []) ≡ cells → IsCaller first n cells (left_over {A = A} i first (n ∷ []))
    last_caller cells sum_ = let a = length_pad first (rows_from {A = A} i (n ∷ [])) in let b = length_from A i (n ∷ []) in
        caller_of first n cells i (left_over i first (n ∷ [])) refl (omega arith) (omega arith) last_own last_unused

    pub last_new : IsNew first n (left_over {A = A} i first (n ∷ []))
    last_new = new_of first n i (left_over i first (n ∷ [])) refl last_own last_unused

  home_at : (n k : ℕ) → k < n → get_elem? (map some (replicate n (let x : SlotOf A = None in x))) k ≡ some (some None)
  home_at zero k lt = absurd (omega arith)
  home_at (suc n) zero lt = refl
  home_at (suc n) (suc k) lt = home_at n k (omega arith)

  -- the rule holds at the start
  pub starts : (limits : List ℕ) → Ruled limits (at_start (replicate (cells_in limits) 0) (replicate (cells_in limits) (let x : SlotOf A = None in x)) (whole limits))
  starts limits = record {
    wide = length-replicate (cells_in limits) 0;
    deep = length-map (replicate (cells_in limits) (let x : SlotOf A = None in x)) some ∙ length-replicate (cells_in limits) (let x : SlotOf A = None in x);
    callers = (let r = callers_length 0 limits in omega arith);
    each = λ j v e. only j v e;
    cell = λ k lt. let d = owned 0 limits k lt in subst (λ (z : ℕ × maybe.Option (maybe.Option (SlotOf A)) × List (Part A)). Cell z.0 z.1 z.2)
        (λ i. (sym (get_or-replicate (cells_in limits) k 0 0 lt) i, sym (home_at (cells_in limits) k lt) i, sym d.1 i ∷ [])) (start d.0);
  }
    where
      fits : (d j : ℕ) (p : Part A) → get_elem? (fresh d ∷ []) j ≡ some p → Fits (fresh d ∷ []) 0 0 0 nobody p
      fits d zero p e = subst (Fits (fresh d ∷ []) 0 0 0 nobody) (some-injective (fresh d) p e) (record {
        side = inl (record { one = refl; count = refl; asked = refl; request = All-nil (λ (r : RequestId). r ≡ nobody); settled = (omega arith); taking = (omega arith); alone = (omega arith) });
        tickets = All-nil (λ (t : Opening). t ≡ opening 0 nobody);
        filling = (omega arith);
        late = (omega arith);
        cancelled = (omega arith);
        given_up = All-nil (λ (x : ℕ). x + 0 ≤ 0);
        dropped = All-nil (λ (x : ℕ). x + 0 ≤ 0);
        filled = All-nil (λ (e : Fill A). e.opening.number + 0 ≤ 0);
        taken = All-nil (WasFilled (fresh d ∷ []));
      })
      fits d (suc j) p e = absurd (some-ne-none p (sym e))

      start : (d : ℕ) → Cell {A = A} 0 (some (some None)) (fresh d ∷ [])
      start d = record {
        n = 0;
        open_ = 0;
        unspent = 0;
        q = nobody;
        opened = (omega arith);
        word_is = refl;
        one_owner = refl;
        one_ticket = refl;
        few = (omega arith);
        filled_once = λ m. omega arith;
        cancelled = λ a b. absurd (omega arith);
        dropped = λ m. omega arith;
        waiting = record { waits = 0; none_waits = λ lt. refl; one_waits = λ lt. absurd (omega arith); here = refl; before = λ m ne. refl };
        each = λ j p e. fits d j p e;
        slot = inl (refl, (None, refl, record { pending = λ h. refl; closed = λ h. refl; filled = λ h k. absurd (omega arith) }));
      }

      no_owner : (ns : List ℕ) (k : ℕ) → length (callers_from 0 ns) ≡ 0 → owns (nth {A = A} (rows_from 0 ns) k) ≡ 0
      no_owner [] k z = refl
      no_owner (n ∷ ns) k z = absurd (omega arith)

      only : (j : ℕ) (v : View A) → get_elem? (whole limits ∷ []) j ≡ some v → OfCallers v
      only zero v e = subst OfCallers (some-injective (whole limits) v e) (λ z k. let u = unused_from 0 limits k in (ap (λ (p : Part A). p.taken) u, ap (λ (p : Part A). p.filled) u, ap held u, no_owner limits k z, ap (λ (p : Part A). p.given_up) u))
      only (suc j) v e = absurd (some-ne-none v (sym e))

  -- one more caller gets its cells, and others are left
  pub first_split_at : (limits : List ℕ) (id i first : ℕ) (x : View A) (ns : List ℕ) → x ≡ left_over i first ns → 1 < length ns → Splits (Ruled limits) id x (but_first x) (first_only x)
  first_split_at limits id i first x [] e many = absurd (omega arith)
  first_split_at limits id i first x (n ∷ []) e many = absurd (omega arith)
  first_split_at limits id i first x (n ∷ (m ∷ ns)) e many = subst (λ (z : View A). Splits (Ruled limits) id z (but_first z) (first_only z)) (sym e)
      (let v : View A = left_over i first (n ∷ (m ∷ ns)) in parts_split limits id v (but_first v) (first_only v) (λ k. first_or (suc i) (at k v).owners == i) (omega arith) (omega arith) (omega arith)
      (λ k. nth_map (other_part i) v.parts k (blank_cond (suc i == i))) (λ k. nth_map (mine_part i) v.parts k (blank_cond (suc i == i))))

pub cells_drop : (ns : List ℕ) (i : ℕ) → i < length ns → cells_in (drop i ns) ≡ get_or ns i 0 + cells_in (drop (suc i) ns)
cells_drop [] i lt = absurd (omega arith)
cells_drop (n ∷ ns) zero lt = refl
cells_drop (n ∷ ns) (suc i) lt = cells_drop ns i (omega arith)

drop_here : (ns : List ℕ) (i : ℕ) → i < length ns → drop i ns ≡ get_or ns i 0 ∷ drop (suc i) ns
drop_here [] i lt = absurd (omega arith)
drop_here (n ∷ ns) zero lt = refl
drop_here (n ∷ ns) (suc i) lt = drop_here ns i (omega arith)

pub drop_end : (ns : List ℕ) (i : ℕ) → length ns ≤ i → drop i ns ≡ []
drop_end [] zero le = refl
drop_end [] (suc i) le = refl
drop_end (n ∷ ns) zero le = absurd (omega arith)
drop_end (n ∷ ns) (suc i) le = drop_end ns i (omega arith)

pub drop_next : (ns : List ℕ) (i : ℕ) → i < length ns → drop i ns ≡ get_or ns i 0 ∷ drop (i + 1) ns
drop_next ns i lt = let e : suc i ≡ i + 1 = omega arith in drop_here ns i lt ∙ ap (λ j. get_or ns i 0 ∷ drop j ns) e

pub cells_next : (ns : List ℕ) (i : ℕ) → i < length ns → cells_in (drop i ns) ≡ get_or ns i 0 + cells_in (drop (i + 1) ns)
cells_next ns i lt = ap cells_in (drop_next ns i lt)

-- callers with at most 50 cells each have at most 50 times as many, and at least one where there is a caller
pub few_cells : (ns : List ℕ) → All (λ n. (0 < n) × (n ≤ 50)) ns → cells_in ns ≤ 50 * length ns
few_cells [] h = omega arith
few_cells (n ∷ ns) h = let here = All-head (λ (m : ℕ). (0 < m) × (m ≤ 50)) n ns h in let most = here.1 in let r = few_cells ns (All-tail (λ (m : ℕ). (0 < m) × (m ≤ 50)) n ns h) in omega arith

pub some_cell : (ns : List ℕ) → 0 < length ns → All (λ n. (0 < n) × (n ≤ 50)) ns → 0 < cells_in ns
some_cell [] lt h = absurd (omega arith)
some_cell (n ∷ ns) lt h = let here = All-head (λ (m : ℕ). (0 < m) × (m ≤ 50)) n ns h in let some_ = here.0 in omega arith
