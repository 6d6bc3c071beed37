-- What a call answers, where memory may run out.
use Rattle.std.specs.Prelude.{◌≡◌, ◌⊎◌, Result, Ok, Err}
use Rattle.xa_buffer.specs.declared.refusal.BufferRefused.{BufferRefused}
use Rattle.xa_buffer.specs.declared.refusal.BufferRefused.TheVariants.{NoMemory}

-- the answer is the one expected; memory may run out in place of any
abbrev pub Answers : {X : Type 0} → Result X BufferRefused → Result X BufferRefused → Type 0
Answers expected (Ok x) = expected ≡ Ok x
Answers expected (Err why) = (why ≡ NoMemory) ⊎ (expected ≡ Err why)

-- the value becomes the one expected; where that is a refusal the call answers it, and the value stays as it was
abbrev pub Changes : {X T : Type 0} → Result X BufferRefused → X → X → Result T BufferRefused → Type 0
Changes expected old new (Ok done) = expected ≡ Ok new
Changes expected old new (Err why) = (expected ≡ Err why) × (new ≡ old)

-- the same, but memory may run out in place of any answer, and the value stays then
abbrev pub MayChange : {X T : Type 0} → Result X BufferRefused → X → X → Result T BufferRefused → Type 0
MayChange expected old new (Ok done) = expected ≡ Ok new
MayChange expected old new (Err why) = ((why ≡ NoMemory) ⊎ (expected ≡ Err why)) × (new ≡ old)
