-- What the caller of a request is told of its end has a spelling.
use Rattle.std.proofs.Common.{◌≡◌, ℤ, Bool, true, false, sym, ◌∙◌, subst, ap, if◌then◌else◌}
use Rattle.std.specs.Prelude.{FitsSigned}
use Rattle.std.specs.Int.{w32}
use Rattle.xa_caller.specs.xa_types.declared.call.Rval.{Rval}
use Rattle.xa_caller.specs.xa_types.declared.call.Rval.TheVariants.{Success, Fail, Exit}
use Rattle.xa_caller.specs.xa_types.declared.data.Data.{Data}
use Rattle.xa_caller.specs.xa_types.declared.reply.Answer.{Answer}
use Rattle.xa_caller.specs.xa_types.declared.setup.Setup.{Setup}
use Rattle.xa_caller.specs.xa_types.Configured.{is_configured}
use Rattle.xa_caller.specs.xa_types.Kind.{is_sound}
use Rattle.xa_caller.specs.xa_events.declared.event.Outcome.{Outcome}
use Rattle.xa_caller.specs.xa_events.declared.event.Outcome.TheVariants.{BadReturn, Died, Starved}
use Rattle.xa_caller.specs.xa_events.declared.event.StopCause.{StopCause}
use Rattle.xa_caller.specs.xa_events.Answers.{reply_of}
use Rattle.xa_caller.specs.xa_events.Cases.{is_starved}
use Rattle.xa_caller.specs.xa_events.Finishing.{returned}
use Rattle.xa_caller.specs.xa_events.Request.Settlement.{EndedBy}
use Rattle.xa_caller.specs.xa_frame.Spelling.{IsData, IsAnswer}
use Rattle.xa_caller.proofs.Sound.{sound_is_data}
use Rattle.xa_server.specs.Doings.{outcome_of}

returned_sound : (value : Rval) (code : ℤ) (payload : Data) → FitsSigned w32 code → IsData payload → IsAnswer (reply_of (EndedBy (returned value code payload)))
returned_sound Success code payload fits is = (fits, is)
returned_sound Fail code payload fits is = (fits, is)
returned_sound Exit code payload fits is = (fits, is)

-- so it is with a return, whose data is sound or isn't
return_sound : (setup : Setup) (sound : Bool) (value : Rval) (code : ℤ) (payload : Data) → is_configured setup ≡ true → FitsSigned w32 code → sound ≡ is_sound setup payload
    → IsAnswer (reply_of (EndedBy (if sound then returned value code payload else BadReturn)))
return_sound setup true value code payload configured fits is = returned_sound value code payload fits (sound_is_data setup payload configured (sym is))
return_sound setup false value code payload configured fits is = tt

pub answer_sound : (setup : Setup) (sound : Bool) (value : Rval) (code : ℤ) (payload : Data) → is_configured setup ≡ true → FitsSigned w32 code → sound ≡ is_sound setup payload
    → (outcome : Outcome) (answer : Answer) → outcome ≡ (if sound then returned value code payload else BadReturn) → answer ≡ reply_of (EndedBy outcome) → IsAnswer answer
answer_sound setup sound value code payload configured fits is outcome answer ended told =
    subst IsAnswer (sym (told ∙ ap (λ (o : Outcome). reply_of (EndedBy o)) ended)) (return_sound setup sound value code payload configured fits is)

-- and with the death of a life
starved_sound : (starved : Bool) → IsAnswer (reply_of (EndedBy (if starved then Starved else Died)))
starved_sound true = tt
starved_sound false = tt

pub death_sound : (cause : StopCause) → IsAnswer (reply_of (EndedBy (outcome_of cause)))
death_sound cause = starved_sound (is_starved cause)
