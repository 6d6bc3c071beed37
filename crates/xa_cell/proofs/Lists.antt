-- Lists of parts and of views.
use Rattle.std.proofs.Common.{◌≡◌, ◌≢◌, ℕ, zero, suc, ◌+◌, ◌-◌, ◌<◌, ◌≤◌, ◌==◌, Bool, false, List, [], ◌∷◌, ◌++◌, map, length, set, sym, refl, ap, ◌∙◌, subst, arith, append-nil, ◌⊎◌, inl, inr, ⊎_elim, ne_eqb}
use Rattle.std.proofs.lemmas.List.Elements.{All-nil, All-cons, All-head, All-tail, All-append}
use Rattle.std.specs.List.{All}
use mathlib.Core.Option.{some, some-injective, some-ne-none}
use native.Mathlib.Decide.{ℕ_discrete}
use lib.ListN.{get_elem?}
use Rattle.atomic_table.proofs.Lists.{at_set, set_else}
use Rattle.xa_cell.specs.declared.view.Fill.{Fill}
use Rattle.xa_cell.specs.declared.view.Part.{Part}
use Rattle.xa_cell.specs.Views.{nth, blank}
use Rattle.xa_cell.specs.Counts.{once, how_many, times, among}
use Rattle.xa_cell.specs.Joined.{with, all_with}
use Rattle.xa_cell.specs.Rule.{total, IsIn, WasFilled}

pub decided : (a b : ℕ) → (a ≡ b) ⊎ (a ≢ b)
decided a b = elim (ℕ_discrete a b) [ yes e ↦ inl e | no ne ↦ inr ne ]

pub below : (x y : ℕ) → (x < y) ⊎ (y ≤ x)
below x y = ⊎_elim (λ (e : y - x ≡ 0). inr (omega arith)) (λ (ne : y - x ≢ 0). inl (omega (arith, ne))) (decided (y - x) 0)

module _ {X : Type 0} where
  pub total_set : (f : X → ℕ) (l : List X) (i : ℕ) (v w : X) → get_elem? l i ≡ some v → total f (set l i w) + f v ≡ total f l + f w
  total_set f [] i v w e = absurd (some-ne-none v (sym e))
  total_set f (x ∷ xs) zero v w e = let is : f x ≡ f v = ap f (some-injective x v e) in omega arith
  total_set f (x ∷ xs) (suc i) v w e = let r = total_set f xs i v w e in omega arith

  pub total_snoc : (f : X → ℕ) (l : List X) (w : X) → total f (l ++ w ∷ []) ≡ total f l + f w
  total_snoc f [] w = omega arith
  total_snoc f (x ∷ xs) w = let r = total_snoc f xs w in omega arith

  pub total_one : (f : X → ℕ) (l : List X) (i : ℕ) (v : X) → get_elem? l i ≡ some v → f v ≤ total f l
  total_one f [] i v e = absurd (some-ne-none v (sym e))
  total_one f (x ∷ xs) zero v e = let is : f x ≡ f v = ap f (some-injective x v e) in omega arith
  total_one f (x ∷ xs) (suc i) v e = let r = total_one f xs i v e in omega arith

  pub total_two : (f : X → ℕ) (l : List X) (i j : ℕ) (v w : X) → i ≢ j → get_elem? l i ≡ some v → get_elem? l j ≡ some w → f v + f w ≤ total f l
  total_two f [] i j v w n e g = absurd (some-ne-none v (sym e))
  total_two f (x ∷ xs) zero zero v w n e g = absurd (n refl)
  total_two f (x ∷ xs) zero (suc j) v w n e g = let is : f x ≡ f v = ap f (some-injective x v e) in let r = total_one f xs j w g in omega arith
  total_two f (x ∷ xs) (suc i) zero v w n e g = let is : f x ≡ f w = ap f (some-injective x w g) in let r = total_one f xs i v e in omega arith
  total_two f (x ∷ xs) (suc i) (suc j) v w n e g = let r = total_two f xs i j v w (λ h. n (ap suc h)) e g in omega arith

  pub total_zero : (f : X → ℕ) (l : List X) → ((j : ℕ) (v : X) → get_elem? l j ≡ some v → f v ≡ 0) → total f l ≡ 0
  total_zero f [] h = refl
  total_zero f (x ∷ xs) h = let here = h 0 x refl in let r = total_zero f xs (λ j v e. h (suc j) v e) in omega arith

  pub set_mine : (l : List X) (i : ℕ) (v w : X) → get_elem? l i ≡ some v → get_elem? (set l i w) i ≡ some w
  set_mine [] i v w e = absurd (some-ne-none v (sym e))
  set_mine (x ∷ xs) zero v w e = refl
  set_mine (x ∷ xs) (suc i) v w e = set_mine xs i v w e

  -- what holds of the new one and of the others
  pub at_each : (F : X → Type 0) (l : List X) (i : ℕ) (w : X) → F w → ((j : ℕ) (u : X) → j ≢ i → get_elem? l j ≡ some u → F u) → (j : ℕ) (u : X) → get_elem? (set l i w) j ≡ some u → F u
  at_each F l i w here there j u e = ⊎_elim (λ (h : (j ≡ i) × (w ≡ u)). subst F h.1 here) (λ (h : (j ≢ i) × (get_elem? l j ≡ some u)). there j u h.0 h.1) (at_set l i j w u e)

  pub map_set : {Y : Type 0} (f : X → Y) (l : List X) (i : ℕ) (w : X) → map f (set l i w) ≡ set (map f l) i (f w)
  map_set f [] i w = refl
  map_set f (x ∷ xs) zero w = refl
  map_set f (x ∷ xs) (suc i) w = ap (λ l. f x ∷ l) (map_set f xs i w)

  pub map_snoc : {Y : Type 0} (f : X → Y) (l : List X) (w : X) → map f (l ++ w ∷ []) ≡ map f l ++ f w ∷ []
  map_snoc f [] w = refl
  map_snoc f (x ∷ xs) w = ap (λ l. f x ∷ l) (map_snoc f xs w)

  pub set_twice : (l : List X) (i : ℕ) (v w : X) → set (set l i v) i w ≡ set l i w
  set_twice [] i v w = refl
  set_twice (x ∷ xs) zero v w = refl
  set_twice (x ∷ xs) (suc i) v w = ap (λ l. x ∷ l) (set_twice xs i v w)

  pub All-none : (P : X → Type 0) (xs : List X) → length xs ≡ 0 → All P xs
  All-none P [] h = All-nil P
  All-none P (x ∷ xs) h = absurd (omega arith)

  pub none_in : (xs : List X) → length xs ≡ 0 → xs ≡ []
  none_in [] h = refl
  none_in (x ∷ xs) h = absurd (omega arith)

  pub one_in : (xs : List X) → length xs ≡ 1 → (x : X) × (xs ≡ x ∷ [])
  one_in [] h = absurd (omega arith)
  one_in (x ∷ []) h = (x, refl)
  one_in (x ∷ (y ∷ ys)) h = absurd (omega arith)

  pub All_push : (P : X → Type 0) (xs ys : List X) (x : X) → ys ≡ xs ++ x ∷ [] → All P xs → P x → All P ys
  All_push P xs ys x e h here = subst (All P) (sym e) (All-append P xs (x ∷ []) h (All-cons P x [] here (All-nil P)))

  pub how_many_append : (f : X → Bool) (xs ys : List X) → how_many f (xs ++ ys) ≡ how_many f xs + how_many f ys
  how_many_append f [] ys = omega arith
  how_many_append f (x ∷ xs) ys = let r = how_many_append f xs ys in omega arith

  how_many_none : (f : X → Bool) (P : X → Type 0) (xs : List X) → ((x : X) → P x → f x ≡ false) → All P xs → how_many f xs ≡ 0
  how_many_none f P [] fails h = refl
  how_many_none f P (x ∷ xs) fails h = let no : once (f x) ≡ 0 = ap once (fails x (All-head P x xs h)) in let r = how_many_none f P xs fails (All-tail P x xs h) in omega arith

pub among_append : (n : ℕ) (xs ys : List ℕ) → among n (xs ++ ys) ≡ among n xs + among n ys
among_append n xs ys = how_many_append (λ x. x == n) xs ys

pub among_none : (n : ℕ) (xs : List ℕ) → All (λ x. x + 1 ≤ n) xs → among n xs ≡ 0
among_none n xs h = how_many_none (λ x. x == n) (λ x. x + 1 ≤ n) xs (λ x lt. ne_eqb x n (λ e. omega arith)) h

module _ {A : Type 0} where
  pub times_append : (n : ℕ) (xs ys : List (Fill A)) → times n (xs ++ ys) ≡ times n xs + times n ys
  times_append n xs ys = how_many_append (λ (e : Fill A). e.opening.number == n) xs ys

  pub times_none : (n : ℕ) (xs : List (Fill A)) → All (λ e. e.opening.number + 1 ≤ n) xs → times n xs ≡ 0
  times_none n xs h = how_many_none (λ (e : Fill A). e.opening.number == n) (λ (e : Fill A). e.opening.number + 1 ≤ n) xs (λ e lt. ne_eqb e.opening.number n (λ s. omega arith)) h

  pub nth_set : (ps : List (Part A)) (k : ℕ) (p : Part A) → k < length ps → nth (set ps k p) k ≡ p
  nth_set [] k p h = absurd (omega arith)
  nth_set (x ∷ xs) zero p h = refl
  nth_set (x ∷ xs) (suc k) p h = nth_set xs k p (omega arith)

  pub nth_else : (ps : List (Part A)) (k j : ℕ) (p : Part A) → j ≢ k → nth (set ps k p) j ≡ nth ps j
  nth_else [] k j p ne = refl
  nth_else (x ∷ xs) zero zero p ne = absurd (ne refl)
  nth_else (x ∷ xs) zero (suc j) p ne = refl
  nth_else (x ∷ xs) (suc k) zero p ne = refl
  nth_else (x ∷ xs) (suc k) (suc j) p ne = nth_else xs k j p (λ e. ne (ap suc e))

  pub nth_map : (f : Part A → Part A) (ps : List (Part A)) (k : ℕ) → f blank ≡ blank → nth (map f ps) k ≡ f (nth ps k)
  nth_map f [] k e = sym e
  nth_map f (x ∷ xs) zero e = refl
  nth_map f (x ∷ xs) (suc k) e = nth_map f xs k e

  -- what leaves each part as it is leaves the list so
  pub map_same : (f : Part A → Part A) (ps : List (Part A)) → ((k : ℕ) → f (nth ps k) ≡ nth ps k) → map f ps ≡ ps
  map_same f [] h = refl
  map_same f (x ∷ xs) h = λ i. h 0 i ∷ map_same f xs (λ k. h (suc k)) i

  pub with_blank : (p : Part A) → with p blank ≡ p
  with_blank p i = record {
    owners = append-nil p.owners i;
    count = (let e : p.count + 0 ≡ p.count = omega arith in e) i;
    asked = append-nil p.asked i;
    settled = (let e : p.settled + 0 ≡ p.settled = omega arith in e) i;
    tickets = append-nil p.tickets i;
    filling = (let e : p.filling + 0 ≡ p.filling = omega arith in e) i;
    taking = (let e : p.taking + 0 ≡ p.taking = omega arith in e) i;
    late = (let e : p.late + 0 ≡ p.late = omega arith in e) i;
    given_up = append-nil p.given_up i;
    dropped = append-nil p.dropped i;
    taken = append-nil p.taken i;
    filled = append-nil p.filled i;
  }

  pub blank_with : (p : Part A) → with blank p ≡ p
  blank_with p i = record {
    owners = p.owners;
    count = (let e : 0 + p.count ≡ p.count = omega arith in e) i;
    asked = p.asked;
    settled = (let e : 0 + p.settled ≡ p.settled = omega arith in e) i;
    tickets = p.tickets;
    filling = (let e : 0 + p.filling ≡ p.filling = omega arith in e) i;
    taking = (let e : 0 + p.taking ≡ p.taking = omega arith in e) i;
    late = (let e : 0 + p.late ≡ p.late = omega arith in e) i;
    given_up = p.given_up;
    dropped = p.dropped;
    taken = p.taken;
    filled = p.filled;
  }

  pub nth_with : (ps qs : List (Part A)) (k : ℕ) → nth (all_with ps qs) k ≡ with (nth ps k) (nth qs k)
  nth_with [] qs k = sym (blank_with (nth qs k))
  nth_with (p ∷ ps) [] zero = sym (with_blank p)
  nth_with (p ∷ ps) [] (suc k) = sym (with_blank (nth ps k))
  nth_with (p ∷ ps) (q ∷ qs) zero = refl
  nth_with (p ∷ ps) (q ∷ qs) (suc k) = nth_with ps qs k

  pub in_left : (e : Fill A) (xs ys : List (Fill A)) → IsIn e xs → IsIn e (xs ++ ys)
  in_left e [] ys h = absurd h
  in_left e (x ∷ xs) ys (inl h) = inl h
  in_left e (x ∷ xs) ys (inr h) = inr (in_left e xs ys h)

  pub in_right : (e : Fill A) (xs ys : List (Fill A)) → IsIn e ys → IsIn e (xs ++ ys)
  in_right e [] ys h = h
  in_right e (x ∷ xs) ys h = inr (in_right e xs ys h)

  pub in_either : (e : Fill A) (xs ys : List (Fill A)) → IsIn e (xs ++ ys) → IsIn e xs ⊎ IsIn e ys
  in_either e [] ys h = inr h
  in_either e (x ∷ xs) ys (inl h) = inl (inl h)
  in_either e (x ∷ xs) ys (inr h) = ⊎_elim (λ (l : IsIn e xs). inl (inr l)) (λ (r : IsIn e ys). inr r) (in_either e xs ys h)

  pub was_here : (ps : List (Part A)) (i : ℕ) (p : Part A) (e : Fill A) → get_elem? ps i ≡ some p → IsIn e p.filled → WasFilled ps e
  was_here [] i p e at h = absurd (some-ne-none p (sym at))
  was_here (x ∷ xs) zero p e at h = inl (subst (λ (z : Part A). IsIn e z.filled) (sym (some-injective x p at)) h)
  was_here (x ∷ xs) (suc i) p e at h = inr (was_here xs i p e at h)

  pub was_set : (ps : List (Part A)) (i : ℕ) (p p' : Part A) (e : Fill A) → get_elem? ps i ≡ some p → (IsIn e p.filled → IsIn e p'.filled) → WasFilled ps e → WasFilled (set ps i p') e
  was_set [] i p p' e at f h = absurd (some-ne-none p (sym at))
  was_set (x ∷ xs) zero p p' e at f (inl h) = inl (f (subst (λ (z : Part A). IsIn e z.filled) (some-injective x p at) h))
  was_set (x ∷ xs) zero p p' e at f (inr h) = inr h
  was_set (x ∷ xs) (suc i) p p' e at f (inl h) = inl h
  was_set (x ∷ xs) (suc i) p p' e at f (inr h) = inr (was_set xs i p p' e at f h)

  was_last : (ps : List (Part A)) (r : Part A) (e : Fill A) → IsIn e r.filled → WasFilled (ps ++ r ∷ []) e
  was_last [] r e h = inl h
  was_last (x ∷ xs) r e h = inr (was_last xs r e h)

  was_longer : (ps : List (Part A)) (r : Part A) (e : Fill A) → WasFilled ps e → WasFilled (ps ++ r ∷ []) e
  was_longer [] r e h = absurd h
  was_longer (x ∷ xs) r e (inl h) = inl h
  was_longer (x ∷ xs) r e (inr h) = inr (was_longer xs r e h)

  pub was_cut : (ps : List (Part A)) (i : ℕ) (p l r : Part A) (e : Fill A) → get_elem? ps i ≡ some p → (IsIn e p.filled → IsIn e l.filled ⊎ IsIn e r.filled) → WasFilled ps e → WasFilled (set ps i l ++ r ∷ []) e
  was_cut [] i p l r e at f h = absurd h
  was_cut (x ∷ xs) zero p l r e at f (inl h) = ⊎_elim (λ (a : IsIn e l.filled). inl a) (λ (b : IsIn e r.filled). inr (was_last xs r e b)) (f (subst (λ (z : Part A). IsIn e z.filled) (some-injective x p at) h))
  was_cut (x ∷ xs) zero p l r e at f (inr h) = inr (was_longer xs r e h)
  was_cut (x ∷ xs) (suc i) p l r e at f (inl h) = inl h
  was_cut (x ∷ xs) (suc i) p l r e at f (inr h) = inr (was_cut xs i p l r e at f h)

  -- where one part comes into another, and is left blank
  was_emptied : (ps : List (Part A)) (j : ℕ) (r : Part A) (e : Fill A) → get_elem? ps j ≡ some r → WasFilled ps e → IsIn e r.filled ⊎ WasFilled (set ps j blank) e
  was_emptied [] j r e at h = absurd h
  was_emptied (x ∷ xs) zero r e at (inl h) = inl (subst (λ (z : Part A). IsIn e z.filled) (some-injective x r at) h)
  was_emptied (x ∷ xs) zero r e at (inr h) = inr (inr h)
  was_emptied (x ∷ xs) (suc j) r e at (inl h) = inr (inl h)
  was_emptied (x ∷ xs) (suc j) r e at (inr h) = ⊎_elim (λ (a : IsIn e r.filled). inl a) (λ (b : WasFilled (set xs j blank) e). inr (inr b)) (was_emptied xs j r e at h)

  pub was_joined : (ps : List (Part A)) (i j : ℕ) (p r : Part A) (e : Fill A) → get_elem? ps i ≡ some p → get_elem? ps j ≡ some r → i ≢ j → WasFilled ps e → WasFilled (set (set ps i (with p r)) j blank) e
  was_joined ps i j p r e at there ne h =
      let pr : Part A = with p r in let mid : List (Part A) = set ps i pr in
      let mid_at : get_elem? mid j ≡ some r = set_else ps i j pr (λ k. ne (sym k)) ∙ there in
      let here : get_elem? (set mid j blank) i ≡ some pr = set_else mid j i blank ne ∙ set_mine ps i p pr at in
      ⊎_elim (λ (a : IsIn e r.filled). was_here (set mid j blank) i pr e here (in_right e p.filled r.filled a)) (λ (b : WasFilled (set mid j blank) e). b)
      (was_emptied mid j r e mid_at (was_set ps i p pr e at (in_left e p.filled r.filled) h))
