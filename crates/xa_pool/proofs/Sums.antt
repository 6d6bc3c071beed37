-- What passes took and gave, counted from the last one.
use Rattle.std.proofs.Common.{◌≡◌, ◌+◌, List, [], ◌∷◌, ◌++◌, arith}
use Rattle.xa_pool.specs.declared.pool.BlockPass.{BlockPass}
use Rattle.xa_pool.specs.Known.{known, taken, given}

pub taken_last : (ps : List BlockPass) (p : BlockPass) → taken (ps ++ p ∷ []) ≡ taken ps + (known p).downs
taken_last [] p = omega arith
taken_last (q ∷ ps) p = let r = taken_last ps p in omega arith

pub given_last : (ps : List BlockPass) (p : BlockPass) → given (ps ++ p ∷ []) ≡ given ps + (known p).ups
given_last [] p = omega arith
given_last (q ∷ ps) p = let r = given_last ps p in omega arith
