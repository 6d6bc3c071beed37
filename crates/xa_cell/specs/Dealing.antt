-- The first seat's view, and how each caller gets its cells of it. No public contract rests on this file.
use Rattle.std.specs.Prelude.{◌≡◌, ℕ, zero, suc, ◌+◌, ◌==◌, cond, List, [], ◌∷◌, map}
use Rattle.xa_cell.specs.declared.view.Part.{Part}
use Rattle.xa_cell.specs.declared.view.View.{View}
use Rattle.xa_cell.specs.Views.{blank}

-- how many cells there are, of all callers
abbrev pub cells_in : List ℕ → ℕ
cells_in [] = 0
cells_in (n ∷ ns) = n + cells_in ns

-- the callers are numbered from this one on
abbrev pub callers_from : ℕ → List ℕ → List ℕ
callers_from c [] = []
callers_from c (n ∷ ns) = c ∷ callers_from (suc c) ns

-- the first of a list of numbers, or another number
abbrev pub first_or : ℕ → List ℕ → ℕ
first_or d [] = d
first_or d (x ∷ xs) = x

abbrev pub first_of : List ℕ → List ℕ
first_of [] = []
first_of (x ∷ xs) = x ∷ []

abbrev pub rest_of : List ℕ → List ℕ
rest_of [] = []
rest_of (x ∷ xs) = xs

module _ {A : Type 0} where
  -- what the owner c knows of a cell that was never opened
  abbrev pub fresh : ℕ → Part A
  fresh c = record blank { owners = c ∷ []; settled = 1 }

  -- so many cells of one caller, and then these
  abbrev pub rows : ℕ → ℕ → List (Part A) → List (Part A)
  rows c zero ps = ps
  rows c (suc n) ps = fresh c ∷ rows c n ps

  -- the cells of the callers from this one on, each of whom gets so many
  abbrev pub rows_from : ℕ → List ℕ → List (Part A)
  rows_from c [] = []
  rows_from c (n ∷ ns) = rows c n (rows_from (suc c) ns)

  -- so many blank parts, and then these
  abbrev pub pad : ℕ → List (Part A) → List (Part A)
  pad zero ps = ps
  pad (suc n) ps = blank ∷ pad n ps

  -- what is left of the first seat once the callers below i have their cells, which are the first ones
  abbrev pub left_over : ℕ → ℕ → List ℕ → View A
  left_over i first ns = record { callers = callers_from i ns; parts = pad first (rows_from i ns); deeds = [] }

  -- the first seat has all cells, of which each caller is to get so many
  abbrev pub whole : List ℕ → View A
  whole limits = left_over 0 0 limits

  -- the parts of the cells that the caller c owns, and the others
  abbrev pub mine_part : ℕ → Part A → Part A
  mine_part c p = cond (first_or (suc c) p.owners == c) p blank

  abbrev pub other_part : ℕ → Part A → Part A
  other_part c p = cond (first_or (suc c) p.owners == c) blank p

  abbrev pub first_only : View A → View A
  first_only v = record { callers = first_of v.callers; parts = map (mine_part (first_or 0 v.callers)) v.parts; deeds = [] }

  abbrev pub but_first : View A → View A
  but_first v = record { callers = rest_of v.callers; parts = map (other_part (first_or 0 v.callers)) v.parts; deeds = v.deeds }
