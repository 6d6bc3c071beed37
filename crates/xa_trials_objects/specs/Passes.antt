-- Passes of a lock that threads take out of places and put back.
use Rattle.std.specs.Prelude.{◌≡◌, ℕ, ◌<◌, List, length, slice_index_or, Option, Some, None}
use Rattle.xa_lock.specs.declared.guarded.Guarded.{Guarded}
use Rattle.xa_lock.specs.declared.pass.LockPass.{LockPass}
use Rattle.xa_lock.specs.Known.{known, IsPassOf}

module _ {T E : Type 0} where
  -- there is a pass of this lock, of this maker
  abbrev pub HasPass : Guarded T E → ℕ → Option (LockPass E) → Type 0
  HasPass lock maker None = ⊥
  HasPass lock maker (Some pass) = IsPassOf lock pass × ((known pass).maker ≡ maker)

  -- each place has the pass of the maker with its number
  abbrev pub HaveEach : Guarded T E → List (Option (LockPass E)) → Type 0
  HaveEach lock places = (k : ℕ) (d : Option (LockPass E)) → k < length places → HasPass lock k (slice_index_or places k d)
