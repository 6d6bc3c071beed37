-- The lanes keep what waits, also once an entry is put or taken out.
use Rattle.std.proofs.Common.{◌≡◌, ℕ, ◌+◌, ◌-◌, ◌<◌, ◌≤◌, Bool, false, cond, List, [], ◌∷◌, ◌++◌, drop, set, inl, inr, refl, sym, ◌∙◌, ap, subst, arith, eq-eqb, length-append}
use Rattle.std.specs.List.{All, filter}
use Rattle.std.proofs.lemmas.Bool.{cases_eq, ne_eqb}
use Rattle.std.proofs.lemmas.List.{get_or-set_same, get_or-set_other, length-set, append-nil}
use Rattle.std.proofs.lemmas.List.Elements.{All-nil, All-cons, All-head, All-tail, All-push, All-weaker, filter-append}
use Rattle.xa_queue.specs.declared.entry.Aged.{Aged}
use Rattle.xa_queue.specs.Lanes.{lane_at, has_priority, AgesRise, Keeps}

-- a list without one of its members
pub All-without : {X : Type 0} (P : X → Type 0) (front : List X) (x : X) (back : List X) → All P (front ++ x ∷ back) → All P (front ++ back)
All-without P [] x back all = All-tail P x back all
All-without P (y ∷ front) x back all = All-cons P y (front ++ back) (All-head P y (front ++ x ∷ back) all) (All-without P front x back (All-tail P y (front ++ x ∷ back) all))

filter-none : {X : Type 0} (p : X → Bool) (xs : List X) → All (λ x. p x ≡ false) xs → filter p xs ≡ []
filter-none p [] none = refl
filter-none p (x ∷ xs) none = ap (λ b. cond b (x ∷ filter p xs) (filter p xs)) (All-head (λ y. p y ≡ false) x xs none) ∙ filter-none p xs (All-tail (λ y. p y ≡ false) x xs none)

module _ {C : Type 0} where
  AgesRise-push : (w : List (Aged C)) (a : Aged C) → AgesRise w → All (λ other. other.age < a.age) w → AgesRise (w ++ a ∷ [])
  AgesRise-push [] a rise young = (All-nil (λ (other : Aged C). a.age < other.age), tt)
  AgesRise-push (h ∷ w) a rise young =
      let Y : Aged C → Type 0 = λ other. other.age < a.age in
      (All-push (λ (other : Aged C). h.age < other.age) w a rise.0 (All-head Y h w young), AgesRise-push w a rise.1 (All-tail Y h w young))

  AgesRise-without : (front : List (Aged C)) (a : Aged C) (back : List (Aged C)) → AgesRise (front ++ a ∷ back) → AgesRise (front ++ back)
  AgesRise-without [] a back rise = rise.1
  AgesRise-without (h ∷ front) a back rise = (All-without (λ (other : Aged C). h.age < other.age) front a back rise.0, AgesRise-without front a back rise.1)

  filter-put : (p : ℕ) (w : List (Aged C)) (a : Aged C) → a.entry.priority ≡ p → filter (has_priority p) (w ++ a ∷ []) ≡ filter (has_priority p) w ++ a ∷ []
  filter-put p w a same = filter-append (has_priority p) w (a ∷ []) ∙ ap (λ b. filter (has_priority p) w ++ cond b (a ∷ []) []) (eq-eqb a.entry.priority p same)

  filter-put_other : (p : ℕ) (w : List (Aged C)) (a : Aged C) → (a.entry.priority ≡ p → ⊥) → filter (has_priority p) (w ++ a ∷ []) ≡ filter (has_priority p) w
  filter-put_other p w a other =
      filter-append (has_priority p) w (a ∷ []) ∙ ap (λ b. filter (has_priority p) w ++ cond b (a ∷ []) []) (ne_eqb a.entry.priority p other) ∙ append-nil (filter (has_priority p) w)

  pub Keeps-put : (lanes : List (List (Aged C))) (next count : ℕ) (w : List (Aged C)) (a : Aged C) → Keeps lanes next count w → 1 ≤ a.entry.priority → a.entry.priority ≤ 100 → next ≤ a.age
      → Keeps (set lanes (a.entry.priority - 1) (lane_at lanes (a.entry.priority - 1) ++ a ∷ [])) (a.age + 1) (count + 1) (w ++ a ∷ [])
  Keeps-put lanes next count w a keeps low high young =
      let lane = a.entry.priority - 1 in
      let all = keeps.all in
      let older = All-weaker (λ (other : Aged C). other.age < next) (λ (other : Aged C). other.age < a.age) (λ other less. omega (arith, less, young)) w keeps.young in
      record {
        all = length-set lanes lane (lane_at lanes lane ++ a ∷ []) ∙ all;
        each = λ k within. elim (cases_eq k lane) [
          | inl same ↦ subst (λ n. lane_at (set lanes lane (lane_at lanes lane ++ a ∷ [])) n ≡ filter (has_priority (n + 1)) (w ++ a ∷ [])) (sym same)
              (get_or-set_same lanes lane (lane_at lanes lane ++ a ∷ []) [] (omega (arith, all, same, within)) ∙ ap (λ l. l ++ a ∷ []) (keeps.each lane (omega (arith, same, within))) ∙ sym (filter-put (lane + 1) w a (omega arith)))
          | inr other ↦ get_or-set_other lanes lane k (lane_at lanes lane ++ a ∷ []) [] other ∙ keeps.each k within ∙ sym (filter-put_other (k + 1) w a (λ same. other (omega (arith, same))))
        ];
        rise = AgesRise-push w a keeps.rise older;
        young = All-push (λ (other : Aged C). other.age < a.age + 1) w a (All-weaker (λ (other : Aged C). other.age < a.age) (λ (other : Aged C). other.age < a.age + 1) (λ other less. omega (arith, less)) w older) (omega arith);
        low = All-push (λ (other : Aged C). 1 ≤ other.entry.priority) w a keeps.low low;
        high = All-push (λ (other : Aged C). other.entry.priority ≤ 100) w a keeps.high high;
        counted = let counted = keeps.counted in omega (arith, counted, length-append w (a ∷ []));
      }

  filter-out : (p : ℕ) (front : List (Aged C)) (a : Aged C) (back : List (Aged C)) → (a.entry.priority ≡ p → ⊥) → filter (has_priority p) (front ++ a ∷ back) ≡ filter (has_priority p) (front ++ back)
  filter-out p front a back other =
      filter-append (has_priority p) front (a ∷ back) ∙ ap (λ b. filter (has_priority p) front ++ cond b (a ∷ filter (has_priority p) back) (filter (has_priority p) back)) (ne_eqb a.entry.priority p other)
      ∙ sym (filter-append (has_priority p) front back)

  filter-first : (p : ℕ) (front : List (Aged C)) (a : Aged C) (back : List (Aged C)) → All (λ x. has_priority p x ≡ false) front → a.entry.priority ≡ p → filter (has_priority p) (front ++ a ∷ back) ≡ a ∷ filter (has_priority p) (front ++ back)
  filter-first p front a back none same =
      let own = filter (has_priority p) back in
      let before = filter-none (has_priority p) front none in
      filter-append (has_priority p) front (a ∷ back) ∙ ap (λ l. l ++ filter (has_priority p) (a ∷ back)) before ∙ ap (λ b. cond b (a ∷ own) own) (eq-eqb a.entry.priority p same)
      ∙ ap (λ l. a ∷ l) (sym (filter-append (has_priority p) front back ∙ ap (λ l. l ++ own) before))

  pub Keeps-take : (lanes : List (List (Aged C))) (next count lane : ℕ) (front : List (Aged C)) (a : Aged C) (back : List (Aged C)) → Keeps lanes next count (front ++ a ∷ back) → lane < 100 → a.entry.priority ≡ lane + 1 → All (λ x. has_priority (lane + 1) x ≡ false) front
      → Keeps (set lanes lane (drop 1 (lane_at lanes lane))) next (count - 1) (front ++ back)
  Keeps-take lanes next count lane front a back keeps within' same none =
      let all = keeps.all in
      record {
        all = length-set lanes lane (drop 1 (lane_at lanes lane)) ∙ all;
        each = λ k within. elim (cases_eq k lane) [
          | inl here ↦ subst (λ n. lane_at (set lanes lane (drop 1 (lane_at lanes lane))) n ≡ filter (has_priority (n + 1)) (front ++ back)) (sym here)
              (get_or-set_same lanes lane (drop 1 (lane_at lanes lane)) [] (omega (arith, all)) ∙ ap (drop 1) (keeps.each lane within' ∙ filter-first (lane + 1) front a back none same))
          | inr other ↦ get_or-set_other lanes lane k (drop 1 (lane_at lanes lane)) [] other ∙ keeps.each k within ∙ filter-out (k + 1) front a back (λ is. other (omega (arith, is, same)))
        ];
        rise = AgesRise-without front a back keeps.rise;
        young = All-without (λ (other : Aged C). other.age < next) front a back keeps.young;
        low = All-without (λ (other : Aged C). 1 ≤ other.entry.priority) front a back keeps.low;
        high = All-without (λ (other : Aged C). other.entry.priority ≤ 100) front a back keeps.high;
        counted = let counted = keeps.counted in omega (arith, counted, length-append front (a ∷ back), length-append front back);
      }
