-- What a pass and a value that is out know, and of which lock they are (this project's own).
use Rattle.std.specs.Prelude.{◌≡◌, ℕ}
use Rattle.xa_lock.specs.declared.guarded.Guarded.{Guarded}
use Rattle.xa_lock.specs.declared.held.Held.{Held}
use Rattle.xa_lock.specs.declared.pass.Page.{Page}
use Rattle.xa_lock.specs.declared.pass.LockPass.{LockPass}
use Rattle.xa_lock.specs.Pages.{mine, page_of}

-- what a pass knows
abbrev pub known : {E : Type 0} → LockPass E → Page E
known pass = page_of pass.badge.views

module _ {T E : Type 0} where
  -- what the pass knows that took the value
  abbrev pub found : Held T E → Page E
  found held = mine held.turned.seat.me.0

  -- the value that was taken
  abbrev pub value_of : Held T E → T
  value_of held = held.value

  abbrev pub IsPassOf : Guarded T E → LockPass E → Type 0
  IsPassOf lock pass = pass.badge.table_id ≡ lock.table.shared.table_id

  -- the value is this lock's
  abbrev pub IsHeldOf : Guarded T E → Held T E → Type 0
  IsHeldOf lock held = held.turned.seat.table_id ≡ lock.table.shared.table_id

  -- how many passes a lock has
  abbrev pub passes_of : Guarded T E → ℕ
  passes_of lock = lock.table.shared.key.passes
