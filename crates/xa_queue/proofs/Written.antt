-- Lanes as the code reads and writes them.
use Rattle.std.proofs.Common.{◌≡◌, ℕ, ◌+◌, ◌-◌, ◌<◌, ◌≤◌, ◌==◌, true, List, [], ◌∷◌, length, set, get_or, Option, Some, None, inl, inr, refl, sym, ◌∙◌, ap, subst, arith, eqb-true}
use Rattle.std.specs.Prelude.{nat_lt, MatchOption, IfSome}
use Rattle.std.proofs.lemmas.Bool.{cases_eq, cond_both, ltb-true, ltb-false}
use Rattle.std.proofs.lemmas.List.{map-set, get_or-map, set-get_or, nil_from_length}
use Rattle.std.specs.declared.collections.VecDeque.{VecDeque}
use Rattle.xa_queue.specs.declared.entry.Aged.{Aged}
use Rattle.xa_queue.specs.Lanes.{lanes_of, lane_at, first_age, IsLeast, older}

module _ {C A : Type 0} where
  -- a lane that is read
  pub lane-read : (lanes : List (VecDeque (Aged C) A)) (i : ℕ) (lane : VecDeque (Aged C) A) → i < length lanes → lane ≡ get_or lanes i lane → lane_at (lanes_of lanes) i ≡ lane.items
  lane-read lanes i lane within is = let items : VecDeque (Aged C) A → List (Aged C) = λ l. l.items in get_or-map items lanes i lane [] within ∙ ap items (sym is)

  -- a lane that is written
  pub lane-set : (lanes : List (VecDeque (Aged C) A)) (i : ℕ) (lane new : VecDeque (Aged C) A) (change : List (Aged C) → List (Aged C)) → i < length lanes → lane ≡ get_or lanes i lane → new.items ≡ change lane.items
      → lanes_of (set lanes i new) ≡ set (lanes_of lanes) i (change (lane_at (lanes_of lanes) i))
  lane-set lanes i lane new change within is changed =
      let items : VecDeque (Aged C) A → List (Aged C) = λ l. l.items in
      map-set items lanes i new ∙ ap (set (lanes_of lanes) i) (changed ∙ ap change (sym (lane-read lanes i lane within is)))

  pub lane-same : (lanes : List (VecDeque (Aged C) A)) (i : ℕ) (lane new : VecDeque (Aged C) A) → i < length lanes → lane ≡ get_or lanes i lane → new.items ≡ lane.items → lanes_of (set lanes i new) ≡ lanes_of lanes
  lane-same lanes i lane new within is same = lane-set lanes i lane new (λ l. l) within is same ∙ set-get_or (lanes_of lanes) i []

  no_items : (lane : VecDeque (Aged C) A) → (lane.len == 0) ≡ true → lane.items ≡ []
  no_items lane none = nil_from_length lane.items (sym lane.ok.0 ∙ eqb-true lane.len 0 none)

  -- one lane more without an entry
  pub empty-more : (lanes : List (VecDeque (Aged C) A)) (left : ℕ) (lane : VecDeque (Aged C) A) → 0 < left → left ≤ length lanes → lane ≡ get_or lanes (left - 1) lane → (lane.len == 0) ≡ true
      → ((k : ℕ) → left ≤ k → k < length lanes → lane_at (lanes_of lanes) k ≡ []) → (k : ℕ) → left - 1 ≤ k → k < length lanes → lane_at (lanes_of lanes) k ≡ []
  empty-more lanes left lane some most is none empty k low within =
      elim (cases_eq k (left - 1)) [
        | inl same ↦ ap (lane_at (lanes_of lanes)) same ∙ lane-read lanes (left - 1) lane (omega arith) is ∙ no_items lane none
        | inr other ↦ empty k (omega arith) within
      ]

module _ {C : Type 0} where
  -- of so many lanes none has an entry, or the one that was found has the oldest first
  abbrev pub Found : List (List (Aged C)) → ℕ → Option (ℕ × ℕ) → Type 0
  Found lanes count found = MatchOption found ((k : ℕ) → k < count → lane_at lanes k ≡ []) (λ f. (f.0 < length lanes) × (first_age (lane_at lanes f.0) ≡ Some f.1) × IsLeast lanes count f.1)

  no_first : (lane : List (Aged C)) → first_age lane ≡ None → lane ≡ []
  no_first [] is = refl
  no_first (x ∷ lane) is = absurd (cc is)

  least-more : (lanes : List (List (Aged C))) (count age : ℕ) → IsLeast lanes count age → IfSome (first_age (lane_at lanes count)) (λ other. age ≤ other) → IsLeast lanes (count + 1) age
  least-more lanes count age least next k within =
      elim (cases_eq k count) [
        | inl same ↦ subst (λ n. IfSome (first_age (lane_at lanes n)) (λ other. age ≤ other)) (sym same) next
        | inr other ↦ least k (omega arith)
      ]

  least-lower : (lanes : List (List (Aged C))) (count age lower : ℕ) → lower ≤ age → IsLeast lanes count age → IsLeast lanes count lower
  least-lower lanes count age lower less least k within = weaker (first_age (lane_at lanes k)) (least k within)
    where
      weaker : (o : Option ℕ) → IfSome o (λ other. age ≤ other) → IfSome o (λ other. lower ≤ other)
      weaker None at = tt
      weaker (Some n) at = omega (arith, at, less)

  none-least : (lanes : List (List (Aged C))) (count age : ℕ) → ((k : ℕ) → k < count → lane_at lanes k ≡ []) → IsLeast lanes count age
  none-least lanes count age empty k within = subst (λ l. IfSome (first_age l) (λ other. age ≤ other)) (sym (empty k within)) tt

  -- one lane more
  pub older-found : (lanes : List (List (Aged C))) (lane : ℕ) (found : Option (ℕ × ℕ)) (age : Option ℕ) → lane < length lanes → first_age (lane_at lanes lane) ≡ age → Found lanes lane found → Found lanes (lane + 1) (older found lane age)
  older-found lanes lane None None within is so_far = λ k below. elim (cases_eq k lane) [
    | inl same ↦ ap (lane_at lanes) same ∙ no_first (lane_at lanes lane) is
    | inr other ↦ so_far k (omega arith)
  ]
  older-found lanes lane (Some f) None within is so_far =
      (so_far.0, so_far.1, least-more lanes lane f.1 so_far.2 (subst (λ o. IfSome o (λ other. f.1 ≤ other)) (sym is) tt))
  older-found lanes lane None (Some age) within is so_far =
      (within, is, least-more lanes lane age (none-least lanes lane age so_far) (subst (λ o. IfSome o (λ other. age ≤ other)) (sym is) (omega arith)))
  older-found lanes lane (Some f) (Some age) within is so_far =
      cond_both (nat_lt f.1 age) (Some f) (Some (lane, age)) (Found lanes (lane + 1))
      (λ less. (so_far.0, so_far.1, least-more lanes lane f.1 so_far.2 (subst (λ o. IfSome o (λ other. f.1 ≤ other)) (sym is) (let l = ltb-true f.1 age less in omega (arith, l)))))
      (λ not_less. (within, is, least-more lanes lane age (least-lower lanes lane f.1 age (ltb-false f.1 age not_less) so_far.2) (subst (λ o. IfSome o (λ other. age ≤ other)) (sym is) (omega arith))))
