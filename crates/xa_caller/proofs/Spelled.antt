-- What a caller is told has a spelling.
use Rattle.std.proofs.Common.{ℤ, Bool, true, false, Option, Some, None, cond, ◌≡◌, subst}
use Rattle.std.proofs.Math.Logic.{∥∥₁_elim}
use Rattle.std.specs.Prelude.{IsTrue, FitsSigned}
use Rattle.std.specs.Int.{w32}
use Rattle.std.specs.Coded.{×_prop, Unit-prop, le_prop, Coded-set, coded_bool}
use Rattle.xa_types.specs.declared.data.Data.{Data}
use Rattle.xa_types.specs.declared.data.Data.TheVariants.{Absent, Octet, Struct}
use Rattle.xa_types.specs.declared.data.Kind.{Kind}
use Rattle.xa_types.specs.declared.fault.Fault.TheVariants.{OType}
use Rattle.xa_types.specs.declared.reply.Answer.{Answer}
use Rattle.xa_types.specs.declared.reply.Answer.TheVariants.{Success, Failed, Error}
use Rattle.xa_types.specs.Kind.{kind_of}
use Rattle.xa_types.specs.Name.{is_name}
use Rattle.xa_events.specs.Answers.{answer_to, kind_fits, under_kind}
use Rattle.xa_frame.specs.Spelling.{IsData, IsAnswer}
use Rattle.xa_caller.specs.Sound.{IsSoundAnswer}

-- ---- that an answer has a spelling has one proof at most

IsTrue-prop : (b : Bool) → IsProp (IsTrue b)
IsTrue-prop b = Coded-set coded_bool b true

FitsSigned-prop : (code : ℤ) → IsProp (FitsSigned w32 code)
FitsSigned-prop code one other i = record { sfits = le_prop one.sfits other.sfits i }

IsData-prop : (payload : Data) → IsProp (IsData payload)
IsData-prop Absent = Unit-prop
IsData-prop (Octet octets) = le_prop
IsData-prop (Struct subtype octets) = ×_prop (IsTrue-prop (is_name subtype)) le_prop

IsAnswer-prop : (answer : Answer) → IsProp (IsAnswer answer)
IsAnswer-prop (Success code payload) = ×_prop (FitsSigned-prop code) (IsData-prop payload)
IsAnswer-prop (Failed code payload) = ×_prop (FitsSigned-prop code) (IsData-prop payload)
IsAnswer-prop (Error fault) = Unit-prop

-- what fills a cell with that answer says so of it
pub filled_sound : (filled : Option Answer) (answer : Answer) → filled ≡ Some answer → ∥ IsSoundAnswer filled ∥₁ → IsAnswer answer
filled_sound filled answer is sound = ∥∥₁_elim sound (IsAnswer-prop answer) (λ one. subst IsSoundAnswer is one)

-- ---- what is told in its place

-- TPEOTYPE has a spelling too
either_sound : (fits : Bool) (answer : Answer) → IsAnswer answer → IsAnswer (cond fits answer (Error OType))
either_sound true answer sound = sound
either_sound false answer sound = tt

under_sound : (expect : Option Kind) (payload : Data) (answer : Answer) → IsAnswer answer → IsAnswer (under_kind expect payload answer)
under_sound None payload answer sound = sound
under_sound (Some wanted) payload answer sound = either_sound (kind_fits wanted (kind_of payload)) answer sound

pub told_sound : (expect : Option Kind) (answer : Answer) → IsAnswer answer → IsAnswer (answer_to expect answer)
told_sound expect (Success code payload) sound = under_sound expect payload (Success code payload) sound
told_sound expect (Failed code payload) sound = under_sound expect payload (Failed code payload) sound
told_sound expect (Error fault) sound = tt
