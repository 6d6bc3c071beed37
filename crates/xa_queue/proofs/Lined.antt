-- A line is kept in its lanes.
use Rattle.std.proofs.Common.{◌≡◌, ℕ, ◌+◌, ◌-◌, ◌<◌, ◌≤◌, Bool, true, false, List, [], ◌∷◌, ◌++◌, length, map, set, get_or, drop, replicate, Some, refl, sym, ◌∙◌, ap, subst, arith}
use Rattle.std.specs.Prelude.{slice_get, IsSomeAnd}
use Rattle.std.specs.List.{All, filter}
use Rattle.std.proofs.lemmas.List.{map-append, length-map, get_or-replicate, length-replicate, get_or-map}
use Rattle.std.proofs.lemmas.List.Elements.{All-nil}
use Rattle.std.specs.declared.collections.VecDeque.{VecDeque}
use Rattle.xa_queue.specs.declared.entry.Aged.{Aged}
use Rattle.xa_queue.specs.Line.{TakesOut}
use Rattle.xa_queue.specs.Lanes.{lanes_of, entry_of, lane_at, first_age, all_in, has_priority, AreEmpty, IsChosenLane, Keeps}
use Rattle.xa_queue.proofs.ByAge.{all_in-kept}
use Rattle.xa_queue.proofs.Keeping.{Keeps-put}
use Rattle.xa_queue.proofs.Choosing.{Leaves, oldest_leaves, highest_leaves, none_kept}

map_nil : {X Y : Type 0} (f : X → Y) (xs : List X) → map f xs ≡ [] → xs ≡ []
map_nil f [] none = refl
map_nil f (x ∷ xs) none = absurd (cc none)

module _ {C : Type 0} where
  -- what the lanes keep, they keep by age
  pub Keeps-itself : (lanes : List (List (Aged C))) (next count : ℕ) (w : List (Aged C)) → Keeps lanes next count w → Keeps lanes next count (all_in lanes)
  Keeps-itself lanes next count w keeps = subst (Keeps lanes next count) (sym (all_in-kept lanes next count w keeps)) keeps

  pub Keeps-none : (lanes : List (List (Aged C))) → lanes ≡ replicate 100 [] → Keeps lanes 0 0 []
  Keeps-none lanes are = record {
    all = ap length are ∙ length-replicate {A = List (Aged C)} 100 [];
    each = λ k within. ap (λ l. lane_at l k) are ∙ get_or-replicate {A = List (Aged C)} 100 k [] [] within;
    rise = tt;
    young = All-nil (λ (a : Aged C). a.age < 0);
    low = All-nil (λ (a : Aged C). 1 ≤ a.entry.priority);
    high = All-nil (λ (a : Aged C). a.entry.priority ≤ 100);
    counted = refl;
  }

  some_age : (lane : List (Aged C)) (P : ℕ → Type 0) → IsSomeAnd (first_age lane) P → 0 < length lane
  some_age [] P is = absurd is
  some_age (x ∷ lane) P is = omega arith

  -- the chosen lane is one of them, and has an entry
  pub chosen_within : (oldest : Bool) (lanes : List (List (Aged C))) (lane : ℕ) → IsChosenLane oldest lanes lane → (lane < length lanes) × (0 < length (lane_at lanes lane))
  chosen_within true lanes lane is = (is.within, some_age (lane_at lanes lane) _ is.first)
  chosen_within false lanes lane is = (is.within, is.some)

  pub chosen_leaves : (oldest : Bool) (lanes : List (List (Aged C))) (next count lane : ℕ) (w : List (Aged C)) (a : Aged C) → Keeps lanes next count w → IsChosenLane oldest lanes lane → slice_get (lane_at lanes lane) 0 ≡ Some a → Leaves lanes next count lane oldest w a
  chosen_leaves true lanes next count lane w a keeps is first = oldest_leaves lanes next count lane w a keeps is first
  chosen_leaves false lanes next count lane w a keeps is first = highest_leaves lanes next count lane w a keeps is first

  -- the lanes once an entry is put
  pub put-keeps : (lanes lanes' : List (List (Aged C))) (next count : ℕ) (a : Aged C) → Keeps lanes next count (all_in lanes) → 1 ≤ a.entry.priority → a.entry.priority ≤ 100 → next ≤ a.age
      → lanes' ≡ set lanes (a.entry.priority - 1) (lane_at lanes (a.entry.priority - 1) ++ a ∷ []) → Keeps lanes' (a.age + 1) (count + 1) (all_in lanes ++ a ∷ [])
  put-keeps lanes lanes' next count a keeps low high young are = subst (λ l. Keeps l (a.age + 1) (count + 1) (all_in lanes ++ a ∷ [])) (sym are) (Keeps-put lanes next count (all_in lanes) a keeps low high young)

  pub put-waiting : (lanes lanes' : List (List (Aged C))) (next count : ℕ) (a : Aged C) → Keeps lanes' next count (all_in lanes ++ a ∷ []) → map entry_of (all_in lanes') ≡ map entry_of (all_in lanes) ++ a.entry ∷ []
  put-waiting lanes lanes' next count a keeps = ap (map entry_of) (all_in-kept lanes' next count (all_in lanes ++ a ∷ []) keeps) ∙ map-append entry_of (all_in lanes) (a ∷ [])

  -- the lanes once an entry is taken
  pub taken-keeps : (oldest : Bool) (lanes lanes' : List (List (Aged C))) (next count lane : ℕ) (a : Aged C) → Leaves lanes next count lane oldest (all_in lanes) a → lanes' ≡ set lanes lane (drop 1 (lane_at lanes lane)) → Keeps lanes' next (count - 1) (all_in lanes')
  taken-keeps oldest lanes lanes' next count lane a leaves are = subst (λ l. Keeps l next (count - 1) (all_in l)) (sym are) (Keeps-itself _ next (count - 1) leaves.rest leaves.keeps)

  pub taken-out : (oldest : Bool) (lanes lanes' : List (List (Aged C))) (next count lane : ℕ) (a : Aged C) → Leaves lanes next count lane oldest (all_in lanes) a → lanes' ≡ set lanes lane (drop 1 (lane_at lanes lane))
      → TakesOut oldest (map entry_of (all_in lanes)) a.entry (map entry_of (all_in lanes'))
  taken-out oldest lanes lanes' next count lane a leaves are =
      let rest : all_in lanes' ≡ leaves.rest = ap all_in are ∙ all_in-kept (set lanes lane (drop 1 (lane_at lanes lane))) next (count - 1) leaves.rest leaves.keeps in
      subst (λ l. TakesOut oldest (map entry_of (all_in lanes)) a.entry (map entry_of l)) (sym rest) leaves.out

  -- where none waits
  pub nothing_in : (lanes : List (List (Aged C))) (next count : ℕ) → Keeps lanes next count (all_in lanes) → AreEmpty lanes → map entry_of (all_in lanes) ≡ []
  nothing_in lanes next count keeps empty = ap (map entry_of) (none_kept lanes next count (all_in lanes) keeps empty)

  pub each_empty : {A : Type 0} (lanes : List (VecDeque (Aged C) A)) (next count : ℕ) → Keeps (lanes_of lanes) next count (all_in (lanes_of lanes)) → map entry_of (all_in (lanes_of lanes)) ≡ [] → All (λ lane. lane.len ≡ 0) lanes
  each_empty {A} lanes next count keeps none k d within =
      let items : VecDeque (Aged C) A → List (Aged C) = λ l. l.items in
      let few : k < 100 = omega (arith, keeps.all, length-map lanes items) in
      let waits : all_in (lanes_of lanes) ≡ [] = map_nil entry_of (all_in (lanes_of lanes)) none in
      let lane = get_or lanes k d in
      lane.ok.0 ∙ ap length (sym (get_or-map items lanes k d [] within) ∙ keeps.each k few ∙ ap (λ w. filter (has_priority (k + 1)) w) waits)
