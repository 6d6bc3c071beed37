-- The entries of all lanes, by age, are those that the lanes keep.
use Rattle.std.proofs.Common.{◌≡◌, ℕ, ◌+◌, ◌<◌, ◌≤◌, cond, List, [], ◌∷◌, ◌++◌, length, suc, zero, inl, inr, refl, sym, ◌∙◌, ap, subst, arith, append_assoc, eq-eqb}
use Rattle.std.specs.List.{All, filter, flat_map}
use Rattle.std.proofs.lemmas.Bool.{cond_both, lt-ltb, le-ltb, ne_eqb, cases_order}
use Rattle.std.proofs.lemmas.List.Elements.{All-nil, All-cons, All-head, All-tail, All-append, All-filter}
use Rattle.xa_queue.specs.declared.entry.Aged.{Aged}
use Rattle.xa_queue.specs.Lanes.{lane_at, insert_aged, by_age, all_in, has_priority, AgesRise, Keeps}

module _ {C : Type 0} where
  abbrev pub IsOlder : Aged C → Aged C → Type 0
  IsOlder a other = a.age < other.age

  abbrev flat : List (List (Aged C)) → List (Aged C)
  flat lanes = flat_map (λ lane. lane) lanes

  -- ---- sorting

  insert_aged-first : (a : Aged C) (xs : List (Aged C)) → All (IsOlder a) xs → insert_aged a xs ≡ a ∷ xs
  insert_aged-first a [] all = refl
  insert_aged-first a (x ∷ xs) all = ap (λ b. cond b (a ∷ x ∷ xs) (x ∷ insert_aged a xs)) (lt-ltb a.age x.age (All-head (IsOlder a) x xs all))

  insert_aged-behind : (a x : Aged C) (xs : List (Aged C)) → IsOlder x a → insert_aged a (x ∷ xs) ≡ x ∷ insert_aged a xs
  insert_aged-behind a x xs older = ap (λ b. cond b (a ∷ x ∷ xs) (x ∷ insert_aged a xs)) (le-ltb a.age x.age (omega arith))

  All-insert_aged : (P : Aged C → Type 0) (a : Aged C) (xs : List (Aged C)) → P a → All P xs → All P (insert_aged a xs)
  All-insert_aged P a [] one all = All-cons P a [] one all
  All-insert_aged P a (x ∷ xs) one all =
      cond_both _ (a ∷ x ∷ xs) (x ∷ insert_aged a xs) (All P) (λ _. All-cons P a (x ∷ xs) one all)
      (λ _. All-cons P x (insert_aged a xs) (All-head P x xs all) (All-insert_aged P a xs one (All-tail P x xs all)))

  All-by_age : (P : Aged C → Type 0) (xs : List (Aged C)) → All P xs → All P (by_age xs)
  unfolding by_age
  All-by_age P [] all = all
  All-by_age P (x ∷ xs) all = All-insert_aged P x (by_age xs) (All-head P x xs all) (All-by_age P xs (All-tail P x xs all))

  -- one that is older than all others stands first
  by_age-oldest : (a : Aged C) (xs ys : List (Aged C)) → All (IsOlder a) (xs ++ ys) → by_age (xs ++ a ∷ ys) ≡ a ∷ by_age (xs ++ ys)
  unfolding by_age
  by_age-oldest a [] ys older = insert_aged-first a (by_age ys) (All-by_age (IsOlder a) ys older)
  by_age-oldest a (x ∷ xs) ys older =
      ap (insert_aged x) (by_age-oldest a xs ys (All-tail (IsOlder a) x (xs ++ ys) older)) ∙ insert_aged-behind x a (by_age (xs ++ ys)) (All-head (IsOlder a) x (xs ++ ys) older)

  -- ---- so many lanes, from that priority on, dealt from one list

  deal : ℕ → ℕ → List (Aged C) → List (List (Aged C))
  deal p zero w = []
  deal p (suc n) w = filter (has_priority p) w ∷ deal (p + 1) n w

  is_deal : (p : ℕ) (lanes : List (List (Aged C))) (w : List (Aged C)) → ((k : ℕ) → k < length lanes → lane_at lanes k ≡ filter (has_priority (p + k)) w) → lanes ≡ deal p (length lanes) w
  unfolding deal
  is_deal p [] w each = refl
  is_deal p (lane ∷ lanes) w each =
      let next : (k : ℕ) → k < length lanes → lane_at lanes k ≡ filter (has_priority (p + 1 + k)) w = λ k within. each (suc k) (omega (arith, within)) ∙ ap (λ n. filter (has_priority n) w) (omega arith) in
      ap (λ l. l ∷ lanes) (each 0 (omega arith) ∙ ap (λ n. filter (has_priority n) w) (omega arith)) ∙ ap (λ ls. filter (has_priority p) w ∷ ls) (is_deal (p + 1) lanes w next)

  deal-none : (p n : ℕ) → flat (deal p n []) ≡ []
  unfolding deal
  deal-none p zero = refl
  deal-none p (suc n) = deal-none (p + 1) n

  All-deal : (P : Aged C → Type 0) (p n : ℕ) (w : List (Aged C)) → All P w → All P (flat (deal p n w))
  unfolding deal
  All-deal P p zero w all = All-nil P
  All-deal P p (suc n) w all = All-append P (filter (has_priority p) w) (flat (deal (p + 1) n w)) (All-filter (has_priority p) P w all) (All-deal P (p + 1) n w all)

  filter-other : (p : ℕ) (h : Aged C) (t : List (Aged C)) → (h.entry.priority ≡ p → ⊥) → filter (has_priority p) (h ∷ t) ≡ filter (has_priority p) t
  filter-other p h t other = ap (λ b. cond b (h ∷ filter (has_priority p) t) (filter (has_priority p) t)) (ne_eqb h.entry.priority p other)

  filter-same : (p : ℕ) (h : Aged C) (t : List (Aged C)) → h.entry.priority ≡ p → filter (has_priority p) (h ∷ t) ≡ h ∷ filter (has_priority p) t
  filter-same p h t same = ap (λ b. cond b (h ∷ filter (has_priority p) t) (filter (has_priority p) t)) (eq-eqb h.entry.priority p same)

  -- an entry of a lower priority stands in none
  deal-lower : (p n : ℕ) (h : Aged C) (t : List (Aged C)) → h.entry.priority < p → deal p n (h ∷ t) ≡ deal p n t
  unfolding deal
  deal-lower p zero h t low = refl
  deal-lower p (suc n) h t low =
      ap (λ l. l ∷ deal (p + 1) n (h ∷ t)) (filter-other p h t (λ same. omega (arith, same))) ∙ ap (λ ls. filter (has_priority p) t ∷ ls) (deal-lower (p + 1) n h t (omega arith))

  -- one entry more stands somewhere among the others
  record Among (a : Aged C) (all others : List (Aged C)) : Type 0 where
    xs : List (Aged C)
    ys : List (Aged C)
    there : all ≡ xs ++ a ∷ ys
    rest : others ≡ xs ++ ys

  deal-more : (p n : ℕ) (h : Aged C) (t : List (Aged C)) → p ≤ h.entry.priority → h.entry.priority < p + n → Among h (flat (deal p n (h ∷ t))) (flat (deal p n t))
  unfolding deal
  deal-more p zero h t low high = absurd (omega arith)
  deal-more p (suc n) h t low high =
      let here = filter (has_priority p) t in
      elim (cases_order h.entry.priority p) [
        | inl same ↦ record {
          xs = [];
          ys = here ++ flat (deal (p + 1) n t);
          there = ap (λ l. l ++ flat (deal (p + 1) n (h ∷ t))) (filter-same p h t same) ∙ ap (λ ls. h ∷ (here ++ flat ls)) (deal-lower (p + 1) n h t (omega (arith, same)));
          rest = refl;
        }
        | inr (inl less) ↦ absurd (omega (arith, less))
        | inr (inr more) ↦
            let others = deal-more (p + 1) n h t (omega (arith, more)) (omega arith) in
            record {
              xs = here ++ others.xs;
              ys = others.ys;
              there = ap (λ l. l ++ flat (deal (p + 1) n (h ∷ t))) (filter-other p h t (λ same. omega (arith, same, more))) ∙ ap (λ l. here ++ l) others.there ∙ sym (append_assoc here others.xs (h ∷ others.ys));
              rest = ap (λ l. here ++ l) others.rest ∙ sym (append_assoc here others.xs others.ys);
            }
      ]

  by_age-deal : (p n : ℕ) (w : List (Aged C)) → AgesRise w → All (λ a. p ≤ a.entry.priority) w → All (λ a. a.entry.priority < p + n) w → by_age (flat (deal p n w)) ≡ w
  unfolding by_age
  by_age-deal p n [] rise low high = ap by_age (deal-none p n)
  by_age-deal p n (h ∷ t) rise low high =
      let L : Aged C → Type 0 = λ a. p ≤ a.entry.priority in
      let H : Aged C → Type 0 = λ a. a.entry.priority < p + n in
      let more = deal-more p n h t (All-head L h t low) (All-head H h t high) in
      let older = subst (All (IsOlder h)) more.rest (All-deal (IsOlder h) p n t rise.0) in
      ap by_age more.there ∙ by_age-oldest h more.xs more.ys older
      ∙ ap (λ l. h ∷ l) (ap by_age (sym more.rest) ∙ by_age-deal p n t rise.1 (All-tail L h t low) (All-tail H h t high))

  -- what the lanes keep is what they have, by age
  pub all_in-kept : (lanes : List (List (Aged C))) (next count : ℕ) (w : List (Aged C)) → Keeps lanes next count w → all_in lanes ≡ w
  all_in-kept lanes next count w keeps =
      let each : (k : ℕ) → k < length lanes → lane_at lanes k ≡ filter (has_priority (1 + k)) w = λ k within. keeps.each k (omega (arith, within, keeps.all)) ∙ ap (λ n. filter (has_priority n) w) (omega arith) in
      let H : Aged C → Type 0 = λ a. a.entry.priority ≤ 100 in
      ap all_in (is_deal 1 lanes w each) ∙ by_age-deal 1 (length lanes) w keeps.rise keeps.low (λ k d within. let high = keeps.high k d within in omega (arith, high, keeps.all))
