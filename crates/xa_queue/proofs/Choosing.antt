-- Which entry stands first in the lane that is looked for.
use Rattle.std.proofs.Common.{◌≡◌, ℕ, ◌+◌, ◌-◌, ◌<◌, ◌≤◌, Bool, true, false, cond, List, [], ◌∷◌, ◌++◌, length, map, drop, set, get_or, Some, inl, inr, refl, sym, ◌∙◌, ap, subst, arith, eq-eqb, eqb-true}
use Rattle.std.specs.Prelude.{slice_get, option_map, IfSome, IsSomeAnd}
use Rattle.std.specs.List.{All, filter}
use Rattle.std.proofs.lemmas.Bool.{cases_Bool, cases_lt}
use Rattle.std.proofs.lemmas.Option.{same_Some}
use Rattle.std.proofs.lemmas.List.{map-append}
use Rattle.std.proofs.lemmas.List.Elements.{All-nil, All-cons, All-head, All-tail, All-map, All-weaker}
use Rattle.xa_queue.specs.declared.entry.Entry.{Entry}
use Rattle.xa_queue.specs.declared.entry.Aged.{Aged}
use Rattle.xa_queue.specs.Line.{IsChosen, TakesOut}
use Rattle.xa_queue.specs.Lanes.{entry_of, lane_at, has_priority, AreEmpty, IsHighest, first_age, IsLeast, IsOldest, Keeps}
use Rattle.xa_queue.proofs.Keeping.{Keeps-take}

module _ {C : Type 0} where
  -- the first that passes, and what stands around it
  pub record Stands (p : Aged C → Bool) (w : List (Aged C)) (a : Aged C) : Type 0 where
    pub front : List (Aged C)
    pub back : List (Aged C)
    pub was : w ≡ front ++ a ∷ back
    pub none : All (λ x. p x ≡ false) front
    pub passes : p a ≡ true

  first_of : (p : Aged C → Bool) (w : List (Aged C)) (a : Aged C) → slice_get (filter p w) 0 ≡ Some a → Stands p w a
  first_of p [] a is = absurd (cc is)
  first_of p (x ∷ w) a is =
      elim (cases_Bool (p x)) [
        | inl so ↦
            let first : Some x ≡ Some a = sym (ap (λ b. slice_get (cond b (x ∷ filter p w) (filter p w)) 0) so) ∙ is in
            let same = same_Some x a first in
            record { front = []; back = w; was = ap (λ y. y ∷ w) same; none = All-nil (λ (y : Aged C). p y ≡ false); passes = ap p (sym same) ∙ so }
        | inr not_so ↦
            let later = first_of p w a (sym (ap (λ b. slice_get (cond b (x ∷ filter p w) (filter p w)) 0) not_so) ∙ is) in
            record { front = x ∷ later.front; back = later.back; was = ap (λ l. x ∷ l) later.was; none = All-cons (λ (y : Aged C). p y ≡ false) x later.front not_so later.none; passes = later.passes }
      ]

  filter-nil_tail : (p : Aged C → Bool) (x : Aged C) (w : List (Aged C)) (b : Bool) → p x ≡ b → filter p (x ∷ w) ≡ [] → filter p w ≡ []
  filter-nil_tail p x w true is none = let some : x ∷ filter p w ≡ [] = sym (ap (λ b. cond b (x ∷ filter p w) (filter p w)) is) ∙ none in absurd (cc some)
  filter-nil_tail p x w false is none = sym (ap (λ b. cond b (x ∷ filter p w) (filter p w)) is) ∙ none

  filter-own : (x : Aged C) (w : List (Aged C)) → filter (has_priority x.entry.priority) (x ∷ w) ≡ x ∷ filter (has_priority x.entry.priority) w
  filter-own x w = let p = has_priority x.entry.priority in ap (λ b. cond b (x ∷ filter p w) (filter p w)) (eq-eqb x.entry.priority x.entry.priority refl)

  -- where none has a higher priority each has at most this one
  none_higher : (top : ℕ) (w : List (Aged C)) → ((q : ℕ) → top < q → q ≤ 100 → filter (has_priority q) w ≡ []) → All (λ a. a.entry.priority ≤ 100) w → All (λ a. a.entry.priority ≤ top) w
  none_higher top [] none high = All-nil (λ (a : Aged C). a.entry.priority ≤ top)
  none_higher top (x ∷ w) none high =
      let H : Aged C → Type 0 = λ a. a.entry.priority ≤ 100 in
      let rest = none_higher top w (λ q above most. filter-nil_tail (has_priority q) x w (has_priority q x) refl (none q above most)) (All-tail H x w high) in
      elim (cases_lt top x.entry.priority) [
        | inl above ↦ let some = sym (filter-own x w) ∙ none x.entry.priority above (All-head H x w high) in absurd (cc some)
        | inr most ↦ All-cons (λ (a : Aged C). a.entry.priority ≤ top) x w most rest
      ]

  -- lanes without entries keep none
  pub none_kept : (lanes : List (List (Aged C))) (next count : ℕ) (w : List (Aged C)) → Keeps lanes next count w → AreEmpty lanes → w ≡ []
  none_kept lanes next count [] keeps empty = refl
  none_kept lanes next count (x ∷ w) keeps empty =
      let low = All-head (λ (a : Aged C). 1 ≤ a.entry.priority) x w keeps.low in
      let high = All-head (λ (a : Aged C). a.entry.priority ≤ 100) x w keeps.high in
      let lane = x.entry.priority - 1 in
      let own : filter (has_priority x.entry.priority) (x ∷ w) ≡ [] = ap (λ q. filter (has_priority q) (x ∷ w)) (omega arith) ∙ sym (keeps.each lane (omega arith)) ∙ empty lane (omega (arith, keeps.all)) in
      let some = sym (filter-own x w) ∙ own in
      absurd (cc some)

  -- an entry leaves a lane, and the lanes keep the others
  pub record Leaves (lanes : List (List (Aged C))) (next count lane : ℕ) (oldest : Bool) (w : List (Aged C)) (a : Aged C) : Type 0 where
    pub rest : List (Aged C)
    pub out : TakesOut oldest (map entry_of w) a.entry (map entry_of rest)
    pub keeps : Keeps (set lanes lane (drop 1 (lane_at lanes lane))) next (count - 1) rest

  stands_in : (lanes : List (List (Aged C))) (next count lane : ℕ) (w : List (Aged C)) (a : Aged C) → Keeps lanes next count w → lane < length lanes → slice_get (lane_at lanes lane) 0 ≡ Some a → Stands (has_priority (lane + 1)) w a
  stands_in lanes next count lane w a keeps within is = first_of (has_priority (lane + 1)) w a (ap (λ l. slice_get l 0) (sym (keeps.each lane (omega (arith, keeps.all, within)))) ∙ is)

  leaves : (lanes : List (List (Aged C))) (next count lane : ℕ) (oldest : Bool) (w : List (Aged C)) (a : Aged C) → Keeps lanes next count w → lane < length lanes → (s : Stands (has_priority (lane + 1)) w a) → IsChosen oldest (map entry_of s.front) a.entry (map entry_of s.back)
      → Leaves lanes next count lane oldest w a
  leaves lanes next count lane oldest w a keeps within s chosen =
      record {
        rest = s.front ++ s.back;
        out = record {
          front = map entry_of s.front;
          back = map entry_of s.back;
          was = ap (map entry_of) s.was ∙ map-append entry_of s.front (a ∷ s.back);
          left = map-append entry_of s.front s.back;
          chosen = chosen;
        };
        keeps = Keeps-take lanes next count lane s.front a s.back (subst (Keeps lanes next count) s.was keeps) (omega (arith, keeps.all, within)) (eqb-true a.entry.priority (lane + 1) s.passes) s.none;
      }

  All-front : (P : Aged C → Type 0) (front : List (Aged C)) (a : Aged C) (back : List (Aged C)) → All P (front ++ a ∷ back) → All P front
  All-front P [] a back all = All-nil P
  All-front P (x ∷ front) a back all = All-cons P x front (All-head P x (front ++ a ∷ back) all) (All-front P front a back (All-tail P x (front ++ a ∷ back) all))

  All-back : (P : Aged C → Type 0) (front : List (Aged C)) (a : Aged C) (back : List (Aged C)) → All P (front ++ a ∷ back) → P a × All P back
  All-back P [] a back all = (All-head P a back all, All-tail P a back all)
  All-back P (x ∷ front) a back all = All-back P front a back (All-tail P x (front ++ a ∷ back) all)

  lower : (top : ℕ) (front : List (Aged C)) → All (λ a. a.entry.priority ≤ top) front → All (λ x. has_priority top x ≡ false) front → All (λ a. a.entry.priority < top) front
  lower top front most none k d within =
      let m = most k d within in
      let n = none k d within in
      elim (cases_lt (get_or front k d).entry.priority top) [
        | inl less ↦ less
        | inr more ↦ let same = eq-eqb (get_or front k d).entry.priority top (omega (arith, m, more)) in absurd (cc (same, n))
      ]

  -- the first of the highest lane
  pub highest_leaves : (lanes : List (List (Aged C))) (next count lane : ℕ) (w : List (Aged C)) (a : Aged C) → Keeps lanes next count w → IsHighest lanes lane → slice_get (lane_at lanes lane) 0 ≡ Some a → Leaves lanes next count lane false w a
  highest_leaves lanes next count lane w a keeps top is =
      let s = stands_in lanes next count lane w a keeps top.within is in
      let none : (q : ℕ) → lane + 1 < q → q ≤ 100 → filter (has_priority q) w ≡ [] = λ q above most. ap (λ p. filter (has_priority p) w) (omega arith) ∙ sym (keeps.each (q - 1) (omega arith)) ∙ top.none_above (q - 1) (omega arith) (omega (arith, keeps.all)) in
      let M : Aged C → Type 0 = λ x. x.entry.priority ≤ lane + 1 in
      let most = subst (All M) s.was (none_higher (lane + 1) w none keeps.high) in
      let own : a.entry.priority ≡ lane + 1 = eqb-true a.entry.priority (lane + 1) s.passes in
      let before = lower (lane + 1) s.front (All-front M s.front a s.back most) s.none in
      leaves lanes next count lane false w a keeps top.within s
      (record {
        before = All-map (λ (x : Entry C). x.priority < a.entry.priority) entry_of s.front (All-weaker (λ (x : Aged C). x.entry.priority < lane + 1) (λ (x : Aged C). x.entry.priority < a.entry.priority) (λ x less. omega (arith, less, own)) s.front before);
        behind = All-map (λ (x : Entry C). x.priority ≤ a.entry.priority) entry_of s.back (All-weaker M (λ (x : Aged C). x.entry.priority ≤ a.entry.priority) (λ x less. omega (arith, less, own)) s.back (All-back M s.front a s.back most).1);
      })

  nothing_older : (lanes : List (List (Aged C))) (next count : ℕ) (front : List (Aged C)) (a : Aged C) (back : List (Aged C)) → Keeps lanes next count (front ++ a ∷ back)
      → IsLeast lanes (length lanes) a.age → front ≡ []
  nothing_older lanes next count [] a back keeps oldest = refl
  nothing_older lanes next count (h ∷ front) a back keeps oldest =
      let w = front ++ a ∷ back in
      let low = All-head (λ (x : Aged C). 1 ≤ x.entry.priority) h w keeps.low in
      let high = All-head (λ (x : Aged C). x.entry.priority ≤ 100) h w keeps.high in
      let lane = h.entry.priority - 1 in
      let own : lane_at lanes lane ≡ h ∷ filter (has_priority h.entry.priority) w = keeps.each lane (omega arith) ∙ ap (λ q. filter (has_priority q) (h ∷ w)) (omega arith) ∙ filter-own h w in
      let first : a.age ≤ h.age = subst (λ l. IfSome (first_age l) (λ other. a.age ≤ other)) own (oldest lane (omega (arith, keeps.all))) in
      let behind : h.age < a.age = (All-back (λ (other : Aged C). h.age < other.age) front a back keeps.rise.0).0 in
      absurd (omega (arith, first, behind))

  -- the first of the lane whose first is the oldest
  pub oldest_leaves : (lanes : List (List (Aged C))) (next count lane : ℕ) (w : List (Aged C)) (a : Aged C) → Keeps lanes next count w → IsOldest lanes lane → slice_get (lane_at lanes lane) 0 ≡ Some a → Leaves lanes next count lane true w a
  oldest_leaves lanes next count lane w a keeps old is =
      let s = stands_in lanes next count lane w a keeps old.within is in
      let age : Aged C → ℕ = λ aged. aged.age in
      let oldest : IsLeast lanes (length lanes) a.age = subst (λ o. IsSomeAnd (option_map age o) (IsLeast lanes (length lanes))) is old.first in
      leaves lanes next count lane true w a keeps old.within s (ap (map entry_of) (nothing_older lanes next count s.front a s.back (subst (Keeps lanes next count) s.was keeps) oldest))
