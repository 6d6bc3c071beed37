-- What a seat took and filled, which only grows (XATMI, tpgetrply; cells are this project's own).
use Rattle.std.specs.Prelude.{◌≡◌, ◌≢◌, ℕ, List, [], ◌∷◌, ◌++◌}
use Rattle.xa_cell.specs.declared.filler.Filled.{Filled}
use Rattle.xa_cell.specs.declared.filler.Filled.TheVariants.{Delivered, Dropped}
use Rattle.xa_cell.specs.declared.owner.Cancelled.{Cancelled}
use Rattle.xa_cell.specs.declared.owner.Cancelled.TheVariants.{Under, Came}
use Rattle.xa_cell.specs.declared.tokens.Ticket.{Ticket}
use Rattle.xa_cell.specs.declared.view.Opening.{Opening}
use Rattle.xa_cell.specs.declared.view.View.{View}
use Rattle.xa_cell.specs.Views.{at, fill}
use Rattle.xa_cell.specs.Known.{named}

module _ {A : Type 0} where
  -- at the cell k no answer more was taken, and none filled
  pub record KeepsAt (k : ℕ) (v w : View A) : Type 0 where
    pub taken : (at k w).taken ≡ (at k v).taken
    pub filled : (at k w).filled ≡ (at k v).filled

  -- so it is at each cell
  pub record Keeps (v w : View A) : Type 0 where
    pub each : (k : ℕ) → KeepsAt k v w

  -- at the cell k this answer more was taken, to the request of its place, and else nothing was taken or filled
  pub record TakesMore (k : ℕ) (a : A) (v w : View A) : Type 0 where
    pub opening : Opening
    pub asked : (at k v).asked ≡ opening.request ∷ []
    pub taken : (at k w).taken ≡ (at k v).taken ++ fill opening a ∷ []
    pub filled : (at k w).filled ≡ (at k v).filled
    pub others : (j : ℕ) → j ≢ k → KeepsAt j v w

  -- at the cell k this answer more was filled, at that opening, and else nothing was taken or filled
  pub record FillsMore (k : ℕ) (opening : Opening) (a : A) (v w : View A) : Type 0 where
    pub filled : (at k w).filled ≡ (at k v).filled ++ fill opening a ∷ []
    pub taken : (at k w).taken ≡ (at k v).taken
    pub others : (j : ℕ) → j ≢ k → KeepsAt j v w

  -- a cancel took the answer that had come, or nothing
  abbrev pub CancelTakes : ℕ → View A → View A → Cancelled A → Type 0
  CancelTakes k v w Under = Keeps v w
  CancelTakes k v w (Came a) = TakesMore k a v w

  -- a fill that was delivered is one more, at the opening that the ticket names; one that was dropped is none
  abbrev pub FillAdds : Ticket A → A → View A → View A → Filled A → Type 0
  FillAdds t a v w Delivered = (opening : Opening) × (named t ≡ opening ∷ []) × FillsMore t.cell opening a v w
  FillAdds t a v w (Dropped b) = Keeps v w
