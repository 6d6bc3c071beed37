-- How many of a caller's cells are in use.
use Rattle.std.proofs.Common.{◌≡◌, ◌≢◌, ◌⊎◌, ℕ, zero, suc, ◌+◌, ◌<◌, ◌≤◌, List, [], ◌∷◌, length, inl, inr, refl, sym, ◌∙◌, ap, subst, arith, ⊎_elim}
use Rattle.xa_types.specs.declared.ids.CallerId.{CallerId}
use Rattle.xa_types.specs.declared.ids.RequestId.{RequestId}
use Rattle.xa_events.specs.Caller.{descriptor_limit}
use Rattle.xa_cell.specs.declared.cells.Cells.{Cells}
use Rattle.xa_cell.specs.declared.tokens.Seat.{Seat}
use Rattle.xa_cell.specs.declared.view.View.{View}
use Rattle.xa_cell.specs.Views.{at}
use Rattle.xa_cell.specs.Known.{known, SameSeat, IsNew}
use Rattle.xa_cell.specs.Calls.{AllTaken, NoneFree}
use Rattle.xa_cell.specs.Places.{Stand, StandsAt, Opens, Shuts}
use Rattle.xa_cell.proofs.Lists.{decided}
use Rattle.xa_caller.specs.declared.cargo.Filling.{Filling}
use Rattle.xa_caller.specs.Kept.{sum_over, used, open_at, used_at, IsSeated}

-- ---- sums

pub sum-least : (f g : ℕ → ℕ) (first n : ℕ) → ((j : ℕ) → first ≤ j → f j ≤ g j) → sum_over f first n ≤ sum_over g first n
sum-least f g first zero each = omega arith
sum-least f g first (suc n) each =
    let here = each first (omega arith) in
    let rest = sum-least f g (suc first) n (λ j low. each j (omega (arith, low))) in
    omega (arith, here, rest)

-- at one place one more, or one less
pub sum-most : (f g : ℕ → ℕ) (k first n : ℕ) → ((j : ℕ) → j ≢ k → f j ≤ g j) → f k ≤ g k + 1 → sum_over f first n ≤ sum_over g first n + 1
sum-most f g k first zero each more = omega arith
sum-most f g k first (suc n) each more =
    ⊎_elim (λ (e : first ≡ k).
    let here = subst (λ i. f i ≤ g i + 1) (sym e) more in
    let rest = sum-least f g (suc first) n (λ j low. each j (λ same. absurd (omega (arith, low, same, e)))) in
    omega (arith, here, rest))
    (λ (ne : first ≢ k). let here = each first ne in let rest = sum-most f g k (suc first) n each more in omega (arith, here, rest)) (decided first k)

pub sum-more : (f g : ℕ → ℕ) (k first n : ℕ) → first ≤ k → k < first + n → ((j : ℕ) → j ≢ k → f j ≤ g j) → f k + 1 ≤ g k → sum_over f first n + 1 ≤ sum_over g first n
sum-more f g k first zero low high each more = absurd (omega (arith, low, high))
sum-more f g k first (suc n) low high each more =
    ⊎_elim (λ (e : first ≡ k).
    let here = subst (λ i. f i + 1 ≤ g i) (sym e) more in
    let rest = sum-least f g (suc first) n (λ j below. each j (λ same. absurd (omega (arith, below, same, e)))) in
    omega (arith, here, rest))
    (λ (ne : first ≢ k).
    let here = each first ne in
    let above : suc first ≤ k = ⊎_elim (λ (l : first < k). omega (arith, l)) (λ (e : first ≡ k). absurd (ne e)) (below first k low) in
    let rest = sum-more f g k (suc first) n above (omega (arith, high)) each more in omega (arith, here, rest)) (decided first k)
  where
    below : (a b : ℕ) → a ≤ b → (a < b) ⊎ (a ≡ b)
    below a b less = ⊎_elim (λ (e : a ≡ b). inr e) (λ (ne : a ≢ b). inl (strict a b less ne)) (decided a b)
      where
        strict : (a b : ℕ) → a ≤ b → a ≢ b → a < b
        strict zero zero less ne = absurd (ne refl)
        strict zero (suc b) less ne = omega arith
        strict (suc a) zero less ne = absurd (omega (arith, less))
        strict (suc a) (suc b) less ne = let rest = strict a b (omega (arith, less)) (λ e. ne (ap suc e)) in omega (arith, rest)

pub sum-each : (f : ℕ → ℕ) (first n : ℕ) → ((j : ℕ) → f j ≤ 1) → sum_over f first n ≤ n
sum-each f first zero each = omega arith
sum-each f first (suc n) each = let here = each first in let rest = sum-each f (suc first) n each in omega (arith, here, rest)

-- ---- cells

used-falls : (xs ys : List RequestId) (m n : ℕ) → ys ≡ xs → m ≤ n → used ys n ≤ used xs m
used-falls [] ys m n same more = subst (λ (l : List RequestId). used l n ≤ used [] m) (sym same) (falls m n more)
  where
    falls : (m n : ℕ) → m ≤ n → used [] n ≤ used [] m
    falls zero zero more = omega arith
    falls zero (suc n) more = omega arith
    falls (suc m) zero more = absurd (omega (arith, more))
    falls (suc m) (suc n) more = omega arith
used-falls (a ∷ xs) ys m n same more = subst (λ (l : List RequestId). used l n ≤ 1) (sym same) (omega arith)

used-most : (xs : List RequestId) (m : ℕ) → used xs m ≤ 1
used-most [] zero = omega arith
used-most [] (suc m) = omega arith
used-most (a ∷ xs) m = omega arith

used-none : (xs : List RequestId) (m : ℕ) → xs ≡ [] → 1 ≤ m → used xs m ≡ 0
used-none xs zero none some = absurd (omega (arith, some))
used-none xs (suc m) none some = ap (λ (l : List RequestId). used l (suc m)) none

used-some : (xs : List RequestId) (m : ℕ) (q : RequestId) → xs ≡ q ∷ [] → used xs m ≡ 1
used-some xs m q is = ap (λ (l : List RequestId). used l m) is

-- a cell that a look found in use is
used-found : (xs : List RequestId) (m u : ℕ) → 0 < length xs + u → m + u ≤ 1 → 1 ≤ used xs m
used-found [] zero u some most = omega arith
used-found [] (suc m) u some most = absurd (omega (arith, some, most))
used-found (a ∷ xs) m u some most = omega arith

all_used : (v : View Filling) (first : ℕ) (unspent : List ℕ) → NoneFree first unspent v → length unspent ≤ sum_over (used_at v) first (length unspent)
all_used v first [] none = omega arith
all_used v first (u ∷ us) none =
    let here = used-found (at first v).asked (at first v).settled u none.0 none.1 in
    let rest = all_used v (suc first) us none.2 in
    omega (arith, here, rest)

-- ---- seats

module _ (cells : Cells Filling) (clients : ℕ) (id : CallerId) (s t : Seat Filling) (same : SameSeat cells s t) (opens owed : ℕ) (old : IsSeated clients id s opens owed) where
  abbrev after : (ℕ → ℕ) → ℕ
  after f = sum_over f s.first s.count

  moved : (f : ℕ → ℕ) → sum_over f t.first t.count ≡ after f
  moved f = ap (λ n. sum_over f n t.count) same.1 ∙ ap (λ n. sum_over f s.first n) same.2

  abbrev Vs : View Filling
  Vs = known s

  abbrev Vt : View Filling
  Vt = known t

  asked-same : (j : ℕ) → StandsAt j Vs Vt → open_at Vt j ≡ open_at Vs j
  asked-same j each = ap length each.0

  pub seated-stand : Stand Vs Vt → IsSeated clients id t opens owed
  seated-stand stand =
      let places = sum-least (open_at Vs) (open_at Vt) s.first s.count (λ j low. let is = asked-same j (stand.each j) in omega (arith, is)) in
      let uses = sum-least (used_at Vt) (used_at Vs) s.first s.count (λ j low. used-falls (at j Vs).asked (at j Vt).asked (at j Vs).settled (at j Vt).settled (stand.each j).0 (stand.each j).1) in
      let m = moved (open_at Vt) in let m' = moved (used_at Vt) in let p = old.places in let q = old.cells in
      record {
        limit = same.2 ∙ old.limit;
        single = λ k. let one = old.single k in let is = asked-same k (stand.each k) in omega (arith, one, is);
        places = omega (arith, places, m, p);
        cells = omega (arith, uses, m', q);
      }

  -- a place more is open, at one of its own cells
  pub seated-opened : (k : ℕ) (q : RequestId) → s.first ≤ k → k < s.first + s.count → Opens k q Vs Vt → IsSeated clients id t (opens + 1) (owed + 1)
  seated-opened k q low high o =
      let shut = ap length o.shut in
      let one = ap length o.asked in
      let places = sum-more (open_at Vs) (open_at Vt) k s.first s.count low high (λ j ne. let is = asked-same j (o.others j ne) in omega (arith, is)) (omega (arith, shut, one)) in
      let uses = sum-most (used_at Vt) (used_at Vs) k s.first s.count (λ j ne. used-falls (at j Vs).asked (at j Vt).asked (at j Vs).settled (at j Vt).settled (o.others j ne).0 (o.others j ne).1)
      (let most = used-most (at k Vt).asked (at k Vt).settled in omega (arith, most)) in
      let m = moved (open_at Vt) in let m' = moved (used_at Vt) in let p = old.places in let q' = old.cells in
      record {
        limit = same.2 ∙ old.limit;
        single = λ j. ⊎_elim (λ (e : j ≡ k). subst (λ i. open_at Vt i ≤ 1) (sym e) (omega (arith, one))) (λ (ne : j ≢ k). let least = old.single j in let is = asked-same j (o.others j ne) in omega (arith, least, is)) (decided j k);
        places = omega (arith, places, m, p);
        cells = omega (arith, uses, m', q');
      }

  -- a place less is, whose cell is as much in use as before, or free
  seated-less : (k : ℕ) (owed' : ℕ) → Shuts k Vs Vt → sum_over (used_at Vt) s.first s.count ≤ owed' → (least : ℕ) → opens ≡ least + 1 → IsSeated clients id t least owed'
  seated-less k owed' z uses least is' =
      let none = ap length z.shut in
      let places = sum-most (open_at Vs) (open_at Vt) k s.first s.count (λ j ne. let is = asked-same j (z.others j ne) in omega (arith, is)) (let one = old.single k in omega (arith, one, none)) in
      let m = moved (open_at Vt) in let m' = moved (used_at Vt) in let p = old.places in
      record {
        limit = same.2 ∙ old.limit;
        single = λ j. ⊎_elim (λ (e : j ≡ k). subst (λ i. open_at Vt i ≤ 1) (sym e) (omega (arith, none))) (λ (ne : j ≢ k). let one = old.single j in let is = asked-same j (z.others j ne) in omega (arith, one, is)) (decided j k);
        places = omega (arith, places, m, p, is');
        cells = omega (arith, uses, m');
      }

  pub seated-freed : (k : ℕ) (q : RequestId) (least owing : ℕ) → s.first ≤ k → k < s.first + s.count → (at k Vs).asked ≡ q ∷ [] → Shuts k Vs Vt → 1 ≤ (at k Vt).settled → opens ≡ least + 1 → owed ≡ owing + 1 → IsSeated clients id t least owing
  seated-freed k q least owing low high asked z settled is owed_is =
      let was = used-some (at k Vs).asked (at k Vs).settled q asked in
      let now = used-none (at k Vt).asked (at k Vt).settled z.shut settled in
      let uses = sum-more (used_at Vt) (used_at Vs) k s.first s.count low high (λ j ne. used-falls (at j Vs).asked (at j Vt).asked (at j Vs).settled (at j Vt).settled (z.others j ne).0 (z.others j ne).1) (omega (arith, was, now)) in
      let p = old.cells in
      seated-less k owing z (omega (arith, uses, p, owed_is)) least is

  pub seated-cancelled : (k : ℕ) (q : RequestId) (least : ℕ) → (at k Vs).asked ≡ q ∷ [] → Shuts k Vs Vt → opens ≡ least + 1 → IsSeated clients id t least owed
  seated-cancelled k q least asked z is =
      let was = used-some (at k Vs).asked (at k Vs).settled q asked in
      let uses = sum-least (used_at Vt) (used_at Vs) s.first s.count (λ j low. ⊎_elim
      (λ (e : j ≡ k). subst (λ i. used_at Vt i ≤ used_at Vs i) (sym e) (let most = used-most (at k Vt).asked (at k Vt).settled in omega (arith, most, was)))
      (λ (ne : j ≢ k). used-falls (at j Vs).asked (at j Vt).asked (at j Vs).settled (at j Vt).settled (z.others j ne).0 (z.others j ne).1) (decided j k)) in
      let p = old.cells in
      seated-less k owed z (omega (arith, uses, p)) least is

pub seated-more : (clients : ℕ) (id : CallerId) (s : Seat Filling) (opens owed owing : ℕ) → owed ≤ owing → IsSeated clients id s opens owed → IsSeated clients id s opens owing
seated-more clients id s opens owed owing less old = record { limit = old.limit; single = old.single; places = old.places; cells = let c = old.cells in omega (arith, c, less) }

-- where all cells are in use, as many requests have no answer
pub all_owed : (clients : ℕ) (id : CallerId) (s t : Seat Filling) (opens owed : ℕ) → IsSeated clients id s opens owed → AllTaken s t → s.count ≤ owed
all_owed clients id s t opens owed seated all =
    let each = all_used (known s) s.first all.unspent all.none_free in
    let n = all.count in
    let least = seated.cells in
    let same = ap (λ n. sum_over (used_at (known s)) s.first n) n in
    omega (arith, each, n, least, same)

-- no more places are open than the caller may have descriptors
pub opens_least : (clients : ℕ) (id : CallerId) (s : Seat Filling) (opens owed : ℕ) → IsSeated clients id s opens owed → opens ≤ descriptor_limit clients id.0
opens_least clients id s opens owed seated =
    let each = sum-each (open_at (known s)) s.first s.count seated.single in
    let p = seated.places in let l = seated.limit in
    omega (arith, each, p, l)

-- at first none is open, and each cell is free
sum-zero : (f : ℕ → ℕ) (first last n : ℕ) → first + n ≤ last → ((j : ℕ) → first ≤ j → j < last → f j ≡ 0) → sum_over f first n ≡ 0
sum-zero f first last zero within each = refl
sum-zero f first last (suc n) within each =
    let here = each first (omega arith) (omega (arith, within)) in
    let rest = sum-zero f (suc first) last n (omega (arith, within)) (λ j low high. each j (omega (arith, low)) high) in
    omega (arith, here, rest)

pub seated-new : (clients : ℕ) (id : CallerId) (s : Seat Filling) → s.count ≡ descriptor_limit clients id.0 → IsNew s.first s.count (known s) → IsSeated clients id s 0 0
seated-new clients id s limit new =
    let none : (k : ℕ) → (at k (known s)).asked ≡ [] = λ k. ap (λ p. p.asked) (new.parts k) in
    let uses = sum-zero (used_at (known s)) s.first (s.first + s.count) s.count (omega arith) (λ j low high. let one = new.own j low high in used-none (at j (known s)).asked (at j (known s)).settled (none j) (omega (arith, one))) in
    record {
      limit = limit;
      single = λ k. let z = ap length (none k) in omega (arith, z);
      places = omega arith;
      cells = omega (arith, uses);
    }
