-- What becomes of a `Held` whose value is lent (this project's own).
use Rattle.std.specs.Borrow.{Lends, Fml, RattleType, MutBor}
use Rattle.xa_lock.specs.declared.held.Held.{Held}
use Rattle.xa_lock.specs.contracts.held.Held.{the_row}

module _ (T E : RattleType) where
  -- once the borrow ends, the value is the last one that was written through it
  abbrev pub LendsValue : MutBor (Held T.Denot E.Denot) → MutBor T.Denot → Fml
  LendsValue held lent = Lends (the_row T E) T held lent (λ w. record held.now { value = w })
