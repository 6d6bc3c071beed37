-- Why a life ceases behind frames that were read.
use Rattle.std.proofs.Common.{◌≡◌, ℕ, true, List, [], ◌∷◌, ◌++◌, Option, Some, None, sym, ◌∙◌, ap, subst, refl, append_assoc}
use Rattle.std.specs.Prelude.{IfErr, IfSome, IsErrAnd, Result, Ok, Err}
use Rattle.xa_link.specs.Told.{Grew}
use Rattle.xa_frame.specs.Stream.{Begins}
use Rattle.xa_frame.specs.declared.frame.Frame.{Frame}
use Rattle.xa_frame.specs.Spelling.{spelled, all_spelled, HasSpelling, kind_octet}
use Rattle.xa_events.specs.declared.event.StopCause.{StopCause}
use Rattle.xa_events.specs.declared.event.StopCause.TheVariants.{Shutdown, Exit, EndOfInput, ReadFault, WriteFault, BadBytes, OutOfTurn, Starved}
use Rattle.xa_pipe.specs.Life.{Turn, LastTurn, Written, MaySay, Shows, Gave, awaiting, is_reading, is_writing, may_starve}
use Rattle.xa_pipe.specs.declared.turn.Turn.TheVariants.{Performing}
use Rattle.xa_pipe.specs.declared.turn.Written.TheVariants.{Cut, Missing}
use Rattle.xa_pipe.specs.Pipe.{Piped, HasRead, Keeps, ReadsNone, Ceases}
use Rattle.xa_frame.proofs.FrameLemmas.{all_spelled-push}
use Rattle.xa_pipe.proofs.Frames.{told_more}

-- ---- errors

-- an error that is that one
pub err_is : {T : Type 0} (result : Result T StopCause) (so : StopCause → Type 0) (cause : StopCause) → IsErrAnd result (λ why. why ≡ cause) → so cause → IfErr result so
err_is (Ok done) so cause is h = tt
err_is (Err why) so cause is h = subst so (sym is) h

-- what is known of an error, of which more follows
pub err_more : {T : Type 0} (result : Result T StopCause) (is so : StopCause → Type 0) → ((cause : StopCause) → is cause → so cause) → IfErr result is → IfErr result so
err_more (Ok done) is so follows h = tt
err_more (Err cause) is so follows h = follows cause h

-- ---- what the link gave where memory ran out

abbrev pub GaveMore : Option (List ℕ) → List Frame → Type 0
GaveMore gave frames = IfSome gave (λ octets. (more : List ℕ) × (octets ≡ all_spelled frames ++ more) × (more ≡ [] → ⊥))

-- a frame that stands there is more than those that were read
pub stands_more : (pipe : Piped) (frames : List Frame) (f : Frame) (behind : List ℕ) → HasRead pipe frames → Begins pipe.rest f behind → GaveMore pipe.gave frames
stands_more pipe frames f behind read begins = told_more pipe.gave _ _ (λ octets e. (pipe.rest, e, λ none. cc (sym begins.whole ∙ none))) read.told

some_more : (rest piece : List ℕ) → (piece ≡ [] → ⊥) → rest ++ piece ≡ [] → ⊥
some_more [] piece some none = some none
some_more (octet ∷ rest) piece some none = cc none

-- and so are octets that were given since
pub lost_more : (before after : Option (List ℕ)) (frames : List Frame) (rest piece : List ℕ) → IfSome before (λ octets. octets ≡ all_spelled frames ++ rest) → Grew before after piece → (piece ≡ [] → ⊥) → GaveMore after frames
lost_more None after frames rest piece read grew some = subst (λ (told : Option (List ℕ)). GaveMore told frames) (sym grew) tt
lost_more (Some octets) after frames rest piece read grew some =
    subst (λ (told : Option (List ℕ)). GaveMore told frames) (sym grew) (
      rest ++ piece,
      ap (λ (xs : List ℕ). xs ++ piece) read ∙ append_assoc (all_spelled frames) rest piece,
      some_more rest piece some,
    )

-- ---- what ceases

-- where the life stood
abbrev pub stood : List ℕ → ℕ → List Frame → Turn → Written → LastTurn
stood name tag frames turn written = record { name = name; tag = tag; frames = frames; turn = turn; written = written }

-- it gave what was read, and what stands behind that
pub gave_read : (at : LastTurn) (pipe : Piped) (cause : StopCause) → HasRead pipe at.frames → Shows at cause pipe.rest pipe.left → Gave at cause pipe.gave pipe.left
gave_read at pipe cause read shows = told_more pipe.gave _ _ (λ octets e. (pipe.rest, e, shows)) read.told

pub starves : (turn : Turn) → is_reading turn ≡ true → may_starve turn ≡ true
starves Performing reads = refl
starves turn reads = reads

module _ (name : List ℕ) (tag : ℕ) (turn : Turn) (frames : List Frame) (pipe : Piped) where
  -- no frame stands there
  pub ceases_none : (cause : StopCause) → is_reading turn ≡ true → Keeps pipe frames cause → ReadsNone pipe frames cause → Ceases (awaiting name tag frames turn) pipe cause
  ceases_none EndOfInput reads read why = record { may = reads; gave = gave_read (awaiting name tag frames turn) pipe EndOfInput read why }
  ceases_none ReadFault reads read why = record { may = reads; gave = gave_read (awaiting name tag frames turn) pipe ReadFault read why }
  ceases_none (BadBytes place) reads read why = record { may = reads; gave = gave_read (awaiting name tag frames turn) pipe (BadBytes place) read why }
  ceases_none Starved reads read why = record { may = starves turn reads; gave = told_more pipe.gave _ _ (λ octets more. (more.0, more.1, λ whole reading. more.2)) why }
  ceases_none Shutdown reads read why = absurd why
  ceases_none Exit reads read why = absurd why
  ceases_none WriteFault reads read why = absurd why
  ceases_none (OutOfTurn kind number) reads read why = absurd why

  other_gave : (octets : List ℕ) (f : Frame) → HasSpelling f → (MaySay name tag turn f → ⊥) → octets ≡ all_spelled (frames ++ f ∷ []) ++ pipe.rest
      → (rest : List ℕ) × (octets ≡ all_spelled frames ++ rest) × Shows (awaiting name tag frames turn) (OutOfTurn (kind_octet f.body) f.tag) rest pipe.left
  other_gave octets f spelling other read = (
    spelled f ++ pipe.rest,
    (read ∙ ap (λ front. front ++ pipe.rest) (all_spelled-push frames f)) ∙ append_assoc (all_spelled frames) (spelled f) pipe.rest,
    (f, pipe.rest, record { spelling = spelling; whole = refl }, refl, refl, other),
  )

  -- another frame stands there
  pub ceases_other : (cause : StopCause) (f : Frame) → cause ≡ OutOfTurn (kind_octet f.body) f.tag → is_reading turn ≡ true → HasSpelling f → (MaySay name tag turn f → ⊥) → HasRead pipe (frames ++ f ∷ [])
      → Ceases (awaiting name tag frames turn) pipe cause
  ceases_other cause f is reads spelling other read =
      subst (λ (why : StopCause). Ceases (awaiting name tag frames turn) pipe why) (sym is) (record {
        may = reads;
        gave = told_more pipe.gave _ _ (λ octets. other_gave octets f spelling other) read.told;
      })

  -- the frame that was due was written in part
  pub ceases_cut : is_writing turn ≡ true → HasRead pipe frames → Ceases (stood name tag frames turn Cut) pipe WriteFault
  ceases_cut writes read = record { may = writes; gave = gave_read (stood name tag frames turn Cut) pipe WriteFault read tt }

  -- memory ran out before it was written
  pub ceases_missing : is_writing turn ≡ true → HasRead pipe frames → Ceases (stood name tag frames turn Missing) pipe Starved
  ceases_missing writes read = record { may = writes; gave = gave_read (stood name tag frames turn Missing) pipe Starved read (λ whole reading. cc whole) }
