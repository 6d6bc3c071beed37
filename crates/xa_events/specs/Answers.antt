-- What a caller is told of a request, by how it was settled (XATMI, tpcall, tpgetrply and tpreturn; that a death is TPESVCERR, TPESYSTEM of a
-- request that was swept, and NOMEM, are this project's own).
use Rattle.std.specs.Prelude.{◌≡◌, ◌⊎◌, Bool, true, false, Option, Some, None, if◌then◌else◌}
use Rattle.xa_types.specs.declared.data.Data.{Data}
use Rattle.xa_types.specs.declared.data.Kind.{Kind}
use Rattle.xa_types.specs.declared.data.Kind.TheVariants.{Octet as OctetKind, Struct as StructKind}
use Rattle.xa_types.specs.declared.fault.Fault.TheVariants.{SvcErr, OType, System, NoMemory}
use Rattle.xa_types.specs.declared.reply.Answer.{Answer}
use Rattle.xa_types.specs.declared.reply.Answer.TheVariants.{Success, Failed as FailedAnswer, Error}
use Rattle.xa_types.specs.Kind.{kind_of}
use Rattle.std.specs.Str.{bytes_eq}
use Rattle.xa_events.specs.declared.event.Outcome.TheVariants.{Returned, Failed, BadReturn, BadForward, Died, Starved}
use Rattle.xa_events.specs.Request.{Settlement}
use Rattle.xa_events.specs.Request.Settlement.{EndedBy, SweptAway}

-- the reply follows what befell the request
abbrev pub reply_of : Settlement → Answer
reply_of (EndedBy (Returned code payload)) = Success code payload
reply_of (EndedBy (Failed code payload)) = FailedAnswer code payload
reply_of (EndedBy BadReturn) = Error SvcErr
reply_of (EndedBy (BadForward version)) = Error SvcErr
reply_of (EndedBy Died) = Error SvcErr
reply_of (EndedBy Starved) = Error NoMemory
reply_of SweptAway = Error System

-- whether the buffer's kind takes data of that kind; data that is absent fits every buffer
abbrev pub kind_fits : Kind → Option Kind → Bool
kind_fits wanted None = true
kind_fits OctetKind (Some OctetKind) = true
kind_fits (StructKind wanted) (Some (StructKind subtype)) = bytes_eq wanted subtype
kind_fits wanted (Some kind) = false

-- under TPNOCHANGE a reply of another kind than the buffer's is TPEOTYPE
abbrev pub under_kind : Option Kind → Data → Answer → Answer
under_kind None payload answer = answer
under_kind (Some wanted) payload answer = if kind_fits wanted (kind_of payload) then answer else Error OType

-- what a caller with that TPNOCHANGE kind, if it has one, is told by that reply
abbrev pub answer_to : Option Kind → Answer → Answer
answer_to wanted (Success code payload) = under_kind wanted payload (Success code payload)
answer_to wanted (FailedAnswer code payload) = under_kind wanted payload (FailedAnswer code payload)
answer_to wanted (Error fault) = Error fault

abbrev pub has_kind : Option Kind → Bool
has_kind None = false
has_kind (Some kind) = true

-- whether the reply has data, which may be of another kind than the caller's buffer
abbrev pub has_payload : Answer → Bool
has_payload (Success code payload) = has_kind (kind_of payload)
has_payload (FailedAnswer code payload) = has_kind (kind_of payload)
has_payload (Error fault) = false

-- the answer is the reply to what befell the request, or TPEOTYPE where data came back
abbrev pub IsAnswerTo : Answer → Settlement → Type 0
IsAnswerTo answer settlement = (answer ≡ reply_of settlement) ⊎ ((answer ≡ Error OType) × (has_payload (reply_of settlement) ≡ true))
