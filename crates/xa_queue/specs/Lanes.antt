-- How the entries of a line are kept: a lane for each priority, and in each the oldest first. No public contract rests on this file.
use Rattle.std.specs.Prelude.{◌≡◌, ℕ, ◌+◌, ◌<◌, ◌≤◌, ◌==◌, nat_lt, Bool, MatchBool, if◌then◌else◌, List, [], ◌∷◌, length, map, slice_get, slice_index_or, Option, option_map, Some, None, IfSome, IsSomeAnd}
use Rattle.std.specs.List.{All, filter, flat_map}
use Rattle.std.specs.declared.collections.VecDeque.{VecDeque}
use Rattle.xa_queue.specs.declared.entry.Entry.{Entry}
use Rattle.xa_queue.specs.declared.entry.Aged.{Aged}
use Rattle.xa_queue.specs.declared.line.Line.TheInside.{Inside}
use Rattle.xa_queue.specs.Line.{InLine}

abbrev pub lanes_of : {C A : Type 0} → List (VecDeque (Aged C) A) → List (List (Aged C))
lanes_of lanes = map (λ lane. lane.items) lanes

-- what was found, with the age there, or this lane where its first entry is as old
abbrev pub older : Option (ℕ × ℕ) → ℕ → Option ℕ → Option (ℕ × ℕ)
older found lane None = found
older None lane (Some age) = Some (lane, age)
older (Some found) lane (Some age) = if nat_lt found.1 age then Some found else Some (lane, age)

module _ {C : Type 0} where
  abbrev pub entry_of : Aged C → Entry C
  entry_of aged = aged.entry

  abbrev pub lane_at : List (List (Aged C)) → ℕ → List (Aged C)
  lane_at lanes k = slice_index_or lanes k []

  -- no lane has an entry
  abbrev pub AreEmpty : List (List (Aged C)) → Type 0
  AreEmpty lanes = (k : ℕ) → k < length lanes → lane_at lanes k ≡ []

  -- the lane has an entry, and none behind it has one
  pub record IsHighest (lanes : List (List (Aged C))) (lane : ℕ) : Type 0 where
    pub within : lane < length lanes
    pub some : 0 < length (lane_at lanes lane)
    pub none_above : (k : ℕ) → lane < k → k < length lanes → lane_at lanes k ≡ []

  -- the age of a lane's first entry
  abbrev pub first_age : List (Aged C) → Option ℕ
  first_age lane = option_map (λ aged. aged.age) (slice_get lane 0)

  -- that age is no greater than that of the first of each of these lanes
  abbrev pub IsLeast : List (List (Aged C)) → ℕ → ℕ → Type 0
  IsLeast lanes count age = (k : ℕ) → k < count → IfSome (first_age (lane_at lanes k)) (λ other. age ≤ other)

  -- the lane has an entry, and its first is no younger than the first of another
  pub record IsOldest (lanes : List (List (Aged C))) (lane : ℕ) : Type 0 where
    pub within : lane < length lanes
    pub first : IsSomeAnd (first_age (lane_at lanes lane)) (IsLeast lanes (length lanes))

  -- the lane that has the oldest entry, or the highest that has one
  abbrev pub IsChosenLane : Bool → List (List (Aged C)) → ℕ → Type 0
  IsChosenLane oldest lanes lane = MatchBool oldest (IsOldest lanes lane) (IsHighest lanes lane)

  -- the entries, by age
  abbrev pub insert_aged : Aged C → List (Aged C) → List (Aged C)
  insert_aged aged [] = aged ∷ []
  insert_aged aged (other ∷ rest) = if nat_lt aged.age other.age then aged ∷ other ∷ rest else other ∷ insert_aged aged rest

  unfoldable pub by_age : List (Aged C) → List (Aged C)
  by_age [] = []
  by_age (aged ∷ rest) = insert_aged aged (by_age rest)

  abbrev pub all_in : List (List (Aged C)) → List (Aged C)
  all_in lanes = by_age (flat_map (λ lane. lane) lanes)

  abbrev pub has_priority : ℕ → Aged C → Bool
  has_priority priority aged = aged.entry.priority == priority

  -- each is younger than those before it
  abbrev pub AgesRise : List (Aged C) → Type 0
  AgesRise [] = Unit {0}
  AgesRise (aged ∷ rest) = All (λ other. aged.age < other.age) rest × AgesRise rest

  -- the lanes keep these entries: the k-th lane, counted from 0, those with priority k + 1
  pub record Keeps (lanes : List (List (Aged C))) (next count : ℕ) (waiting : List (Aged C)) : Type 0 where
    pub all : length lanes ≡ 100
    pub each : (k : ℕ) → k < 100 → lane_at lanes k ≡ filter (has_priority (k + 1)) waiting
    pub rise : AgesRise waiting
    pub young : All (λ aged. aged.age < next) waiting
    pub low : All (λ aged. 1 ≤ aged.entry.priority) waiting
    pub high : All (λ aged. aged.entry.priority ≤ 100) waiting
    pub counted : length waiting ≡ count

  abbrev pub in_line : Inside C → InLine C
  in_line line = record { waiting = map entry_of (all_in (lanes_of line.lanes.items)); next = line.next }

  abbrev pub IsLine : Inside C → Type 0
  IsLine line = Keeps (lanes_of line.lanes.items) line.next line.count (all_in (lanes_of line.lanes.items))
