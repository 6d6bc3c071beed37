-- What was taken and filled, which stands as a seat sees more (this project's own).
use Rattle.std.specs.Prelude.{ℕ}
use Rattle.std.specs.List.{Contains}
use Rattle.xa_caller.specs.xa_cell.declared.view.Fill.{Fill}
use Rattle.xa_caller.specs.xa_cell.declared.view.View.{View}
use Rattle.xa_caller.specs.xa_cell.Views.{at}

-- what was taken from each cell is among what was taken from it later, and so it is with what was filled
pub record Grows {A : Type 0} (v w : View A) : Type 0 where
  pub taken : (k : ℕ) (f : Fill A) → Contains (at k v).taken f → Contains (at k w).taken f
  pub filled : (k : ℕ) (f : Fill A) → Contains (at k v).filled f → Contains (at k w).filled f
