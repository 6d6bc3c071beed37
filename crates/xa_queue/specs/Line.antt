-- The entries that wait at a queue, and which of them is taken (after Tuxedo, tpsprio and PRIO of UBBCONFIG, by which every tenth request is taken
-- first in, first out).
use Rattle.std.specs.Prelude.{◌≡◌, ℕ, ◌<◌, ◌≤◌, ◌%◌, ◌==◌, Bool, MatchBool, List, [], ◌∷◌, ◌++◌}
use Rattle.std.specs.List.{All}
use Rattle.xa_queue.specs.declared.entry.Entry.{Entry}

module _ {C : Type 0} where
  -- no entry before this one has as high a priority, and none behind it a higher one
  pub record IsFirstOfHighest (front : List (Entry C)) (entry : Entry C) (back : List (Entry C)) : Type 0 where
    pub before : All (λ other. other.priority < entry.priority) front
    pub behind : All (λ other. other.priority ≤ entry.priority) back

  -- the entry is the oldest, or the first of those with the highest priority
  abbrev pub IsChosen : Bool → List (Entry C) → Entry C → List (Entry C) → Type 0
  IsChosen oldest front entry back = MatchBool oldest (front ≡ []) (IsFirstOfHighest front entry back)

  -- the k-th take gives this entry: every tenth time the oldest
  abbrev pub IsNext : ℕ → List (Entry C) → Entry C → List (Entry C) → Type 0
  IsNext k front entry back = IsChosen (k % 10 == 0) front entry back

  -- the chosen entry is taken out, and the others stay in their order
  pub record TakesOut (oldest : Bool) (old : List (Entry C)) (entry : Entry C) (new : List (Entry C)) : Type 0 where
    pub front : List (Entry C)
    pub back : List (Entry C)
    pub was : old ≡ front ++ entry ∷ back
    pub left : new ≡ front ++ back
    pub chosen : IsChosen oldest front entry back

-- what a line is: its entries, the oldest first, and the least age of the next one
pub record InLine (C : Type 0) : Type 0 where
  pub waiting : List (Entry C)
  pub next : ℕ
