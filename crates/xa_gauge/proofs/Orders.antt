-- One more call in the order of all calls, and sums over all views.
use Rattle.std.proofs.Common.{◌≡◌, ◌≢◌, ℕ, eqb, eq-eqb, ne_eqb, zero, suc, ◌+◌, ◌<◌, ◌≤◌, Bool, true, false, List, [], ◌∷◌, ◌++◌, length, get_or, set, sym, refl, ap, ◌∙◌, arith, ◌⊎◌, inl, inr, ⊎_elim}
use mathlib.Core.Option.{some, some-injective, some-ne-none}
use lib.ListN.{get_elem?}
use Rattle.xa_gauge.specs.declared.moves.Move.{Move}
use Rattle.xa_gauge.specs.declared.moves.Move.TheVariants.{Up, Down, Full, Empty}
use Rattle.xa_gauge.specs.declared.moves.Knows.{Knows}
use Rattle.xa_gauge.specs.Gauge.{after, May, Entry, level, Legal, own_if, own, ups_of, downs_of, total}

own_if_append : (b : Bool) (x : Move) (ms ns : List Move) → own_if b x (ms ++ ns) ≡ own_if b x ms ++ ns
own_if_append true x ms ns = refl
own_if_append false x ms ns = refl

pub own_mine : (id : ℕ) (m : Move) (h : List Entry) → own id (h ++ (id, m) ∷ []) ≡ own id h ++ m ∷ []
own_mine id m [] = ap (λ b. own_if b m []) (eq-eqb id id refl)
own_mine id m (e ∷ h) = ap (own_if (eqb id e.0) e.1) (own_mine id m h) ∙ own_if_append (eqb id e.0) e.1 (own id h) (m ∷ [])

pub own_other : (j id : ℕ) (m : Move) (h : List Entry) → j ≢ id → own j (h ++ (id, m) ∷ []) ≡ own j h
own_other j id m [] ne = ap (λ b. own_if b m []) (ne_eqb j id ne)
own_other j id m (e ∷ h) ne = ap (own_if (eqb j e.0) e.1) (own_other j id m h ne)

pub level_after : (n : ℕ) (h : List Entry) (e : Entry) → level n (h ++ e ∷ []) ≡ after (level n h) e.1
level_after n [] e = refl
level_after n (x ∷ h) e = level_after (after n x.1) h e

pub legal_after : (full n : ℕ) (h : List Entry) (e : Entry) → Legal full n h → May full (level n h) e.1 → Legal full n (h ++ e ∷ [])
legal_after full n [] e l may = (may, tt)
legal_after full n (x ∷ h) e l may = (l.0, legal_after full (after n x.1) h e l.1 may)

-- what a call changes
pub moved : (full n : ℕ) (m : Move) → May full n m → after n m + downs_of m ≡ n + ups_of m
moved full n Up may = omega arith
moved full n Down may = omega (arith, may)
moved full n Full may = refl
moved full n Empty may = refl

pub stays_low : (full n : ℕ) (m : Move) → May full n m → n ≤ full → after n m ≤ full
stays_low full n Up may low = omega (arith, may)
stays_low full n Down may low = omega (arith, low)
stays_low full n Full may low = low
stays_low full n Empty may low = low

pub set_got : (l : List ℕ) → set l 0 (get_or l 0 0) ≡ l
set_got [] = refl
set_got (x ∷ xs) = refl

module _ {A : Type 0} where
  pub at_below : (l : List A) (i : ℕ) (a : A) → get_elem? l i ≡ some a → i < length l
  at_below [] i a e = absurd (some-ne-none a (sym e))
  at_below (x ∷ xs) zero a e = omega arith
  at_below (x ∷ xs) (suc i) a e = omega (arith, at_below xs i a e)

  pub at_end : (l : List A) (a b : A) (j : ℕ) → get_elem? (l ++ a ∷ []) j ≡ some b → (get_elem? l j ≡ some b) ⊎ ((j ≡ length l) × (a ≡ b))
  at_end [] a b zero e = inr (refl, some-injective a b e)
  at_end [] a b (suc j) e = absurd (some-ne-none b (sym e))
  at_end (x ∷ xs) a b zero e = inl e
  at_end (x ∷ xs) a b (suc j) e = ⊎_elim inl (λ t. inr (ap suc t.0, t.1)) (at_end xs a b j e)

pub total_set : (f : Knows → ℕ) (l : List Knows) (i : ℕ) (v w : Knows) → get_elem? l i ≡ some v → total f (set l i w) + f v ≡ total f l + f w
total_set f [] i v w e = absurd (some-ne-none v (sym e))
total_set f (x ∷ xs) zero v w e = let is : f x ≡ f v = ap f (some-injective x v e) in omega arith
total_set f (x ∷ xs) (suc i) v w e = let r = total_set f xs i v w e in omega arith

pub total_end : (f : Knows → ℕ) (l : List Knows) (a : Knows) → total f (l ++ a ∷ []) ≡ total f l + f a
total_end f [] a = omega arith
total_end f (x ∷ xs) a = let r = total_end f xs a in omega arith

-- a view has no more parts than there are
pub part_of : (l : List Knows) (i : ℕ) (v : Knows) → get_elem? l i ≡ some v → v.parts ≤ total (λ u. u.parts) l
part_of [] i v e = absurd (some-ne-none v (sym e))
part_of (x ∷ xs) zero v e = let is : x.parts ≡ v.parts = ap (λ (u : Knows). u.parts) (some-injective x v e) in omega arith
part_of (x ∷ xs) (suc i) v e = let r = part_of xs i v e in omega arith

abbrev pub Idle : (Knows → ℕ) → List Knows → Type 0
Idle f l = (j : ℕ) (u : Knows) → get_elem? l j ≡ some u → u.parts ≡ 0 → f u ≡ 0

none_of : (f : Knows → ℕ) (l : List Knows) → total (λ u. u.parts) l ≡ 0 → Idle f l → total f l ≡ 0
none_of f [] e idle = refl
none_of f (x ∷ xs) e idle = let r = none_of f xs (omega (arith, e)) (λ j u a. idle (suc j) u a) in let mine = idle 0 x refl (omega (arith, e)) in omega arith

-- where one view has all parts, a sum of what others have not is its own
pub only : (f : Knows → ℕ) (l : List Knows) (i : ℕ) (v : Knows) → get_elem? l i ≡ some v → total (λ u. u.parts) l ≡ v.parts → Idle f l → total f l ≡ f v
only f [] i v at e idle = absurd (some-ne-none v (sym at))
only f (x ∷ xs) zero v at e idle =
    let is : x ≡ v = some-injective x v at in
    let parts : x.parts ≡ v.parts = ap (λ (u : Knows). u.parts) is in
    let rest = none_of f xs (omega (arith, e)) (λ j u a. idle (suc j) u a) in
    let same : f x ≡ f v = ap f is in omega arith
only f (x ∷ xs) (suc i) v at e idle =
    let le = part_of xs i v at in
    let mine = idle 0 x refl (omega (arith, e, le)) in
    let rest = only f xs i v at (omega (arith, e, le)) (λ j u a. idle (suc j) u a) in omega arith
