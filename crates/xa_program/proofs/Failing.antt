-- A call that failed: what is said of its success holds.
use Rattle.std.proofs.Common.{Result, Ok, Err, OnOk, IsErrAnd}
use Rattle.std.specs.Prelude.{IfOk}

pub none_done : {X E : Type 0} (result : Result X E) (Q : E → Type 0) (P : Type 0) → IsErrAnd result Q → OnOk result P
none_done (Ok x) Q P is = absurd is
none_done (Err e) Q P is = tt

-- and so does what is said of the value that it would have answered
pub none_made : {X E : Type 0} (result : Result X E) (Q : E → Type 0) (P : X → Type 0) → IsErrAnd result Q → IfOk result P
none_made (Ok x) Q P is = absurd is
none_made (Err e) Q P is = tt
