-- What a seat knows, cell by cell, and how it is read and changed (this project's own).
use Rattle.std.specs.Prelude.{ℕ, zero, suc, List, [], ◌∷◌, ◌++◌, slice_set}
use Rattle.xa_types.specs.declared.ids.RequestId.{RequestId}
use Rattle.xa_cell.specs.declared.view.Opening.{Opening}
use Rattle.xa_cell.specs.declared.view.Fill.{Fill}
use Rattle.xa_cell.specs.declared.view.Act.{Act}
use Rattle.xa_cell.specs.declared.view.Part.{Part}
use Rattle.xa_cell.specs.declared.view.View.{View}

-- the opening of a cell with this number, for this request
abbrev pub opening : ℕ → RequestId → Opening
opening n q = record { number = n; request = q }

module _ {A : Type 0} where
  -- an answer, at this opening
  abbrev pub fill : Opening → A → Fill A
  fill o a = record { opening = o; answer = a }

  -- what a seat knows of a cell with which it has nothing to do
  abbrev pub blank : Part A
  blank = record { owners = []; count = 0; asked = []; settled = 0; tickets = []; filling = 0; taking = 0; late = 0; given_up = []; dropped = []; taken = []; filled = [] }

  -- the k-th of these parts, blank past the last
  abbrev pub nth : List (Part A) → ℕ → Part A
  nth [] k = blank
  nth (p ∷ ps) zero = p
  nth (p ∷ ps) (suc k) = nth ps k

  -- what the view has of the cell k
  abbrev pub at : ℕ → View A → Part A
  at k v = nth v.parts k

  -- the view with another part of the cell k
  abbrev pub put : ℕ → Part A → View A → View A
  put k p v = record { callers = v.callers; parts = slice_set v.parts k p; deeds = v.deeds }

  -- the view with one deed more, at this opening of the cell k
  abbrev pub did : ℕ → ℕ → List RequestId → Act → View A → View A
  did k n qs act v = record { callers = v.callers; parts = v.parts; deeds = v.deeds ++ (record { cell = k; opening = n; requests = qs; act = act }) ∷ [] }
