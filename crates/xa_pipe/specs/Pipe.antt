-- What the monitor's end of the pipes of a life has seen.
use Rattle.std.specs.Prelude.{◌≡◌, ◌⊎◌, ℕ, List, [], ◌++◌, true, Option, IfSome}
use Rattle.std.specs.Io.{StartsWith}
use Rattle.xa_types.specs.declared.data.Data.{Data}
use Rattle.xa_types.specs.declared.call.Mode.TheVariants.{Reply}
use Rattle.xa_link.specs.Links.{Program}
use Rattle.xa_link.specs.Told.{Rose, Empty}
use Rattle.xa_frame.specs.declared.frame.Frame.{Frame}
use Rattle.xa_frame.specs.declared.frame.Body.TheVariants.{Invoke}
use Rattle.xa_frame.specs.declared.reader.NextRefused.{NextRefused}
use Rattle.xa_frame.specs.declared.reader.NextRefused.TheVariants.{BadFrame, NoMemory}
use Rattle.xa_frame.specs.Reader.{Incoming}
use Rattle.xa_frame.specs.Stream.{IsPartial, IsMalformed}
use Rattle.xa_frame.specs.Spelling.{all_spelled}
use Rattle.xa_events.specs.declared.event.StopCause.{StopCause}
use Rattle.xa_events.specs.declared.event.StopCause.TheVariants.{Shutdown, Exit, EndOfInput, ReadFault, WriteFault, BadBytes, Starved}
use Rattle.xa_pipe.specs.declared.turn.Turn.TheVariants.{AwaitsReady, AwaitsNext}
use Rattle.xa_pipe.specs.Life.{Turn, Says, LastTurn, LinkShows, Gave, awaiting, may_end, tag_after, place_behind}

-- the request to that routine of that service
abbrev pub invoke_frame : List ℕ → List ℕ → ℕ → Data → Frame
invoke_frame service routine tag payload = record { tag = tag; body = Invoke service routine Reply payload }

-- what the link took, gave and still holds, where it tells them, how often its reads and writes failed, its program, and of what it gave the octets that aren't read as a frame, and their place
pub record Piped : Type 0 where
  pub took : Option (List ℕ)
  pub gave : Option (List ℕ)
  pub left : Option (List ℕ)
  pub reads : ℕ
  pub writes : ℕ
  pub program : Program
  pub rest : List ℕ
  pub place : ℕ

-- the pipe of that link with what its reader holds
abbrev pub piped : LinkShows → Incoming → Piped
piped link reader = record { took = link.took; gave = link.gave; left = link.left; reads = link.reads; writes = link.writes; program = link.program; rest = reader.rest; place = reader.place }

-- what the link of the pipe shows
abbrev pub shown : Piped → LinkShows
shown pipe = record { took = pipe.took; gave = pipe.gave; left = pipe.left; reads = pipe.reads; writes = pipe.writes; program = pipe.program }

-- these frames were written
abbrev pub Wrote : Piped → List Frame → Type 0
Wrote pipe frames = IfSome pipe.took (λ octets. octets ≡ all_spelled frames)

-- these frames were read
pub record HasRead (pipe : Piped) (frames : List Frame) : Type 0 where
  pub told : IfSome pipe.gave (λ octets. octets ≡ all_spelled frames ++ pipe.rest)
  pub place : pipe.place ≡ place_behind frames

-- why a life ends where its reader gives no frame
abbrev pub ended_by : NextRefused → StopCause
ended_by (BadFrame place) = BadBytes place
ended_by NoMemory = Starved

-- why no frame was read behind these: where memory ran out, the link gave more than these
abbrev pub ReadsNone : Piped → List Frame → StopCause → Type 0
ReadsNone pipe frames EndOfInput = IsPartial pipe.rest × Empty pipe.left
ReadsNone pipe frames ReadFault = IsPartial pipe.rest
ReadsNone pipe frames (BadBytes place) = (place ≡ place_behind frames) × IsMalformed pipe.rest
ReadsNone pipe frames Starved = IfSome pipe.gave (λ octets. (more : List ℕ) × (octets ≡ all_spelled frames ++ more) × (more ≡ [] → ⊥))
ReadsNone pipe frames cause = ⊥

-- what stays where no more was read: these frames, or where memory ran out that the link gave them, since octets behind them may be lost
abbrev pub Keeps : Piped → List Frame → StopCause → Type 0
Keeps pipe frames Starved = IfSome pipe.gave (λ octets. StartsWith octets (all_spelled frames))
Keeps pipe frames cause = HasRead pipe frames

-- the count of failed reads before and after, where the life ended by that cause as a frame was to come: one read failed, or none
abbrev pub CountsReads : StopCause → ℕ → ℕ → Type 0
CountsReads ReadFault before after = Rose before after
CountsReads WriteFault before after = ⊥
CountsReads Shutdown before after = ⊥
CountsReads Exit before after = ⊥
CountsReads cause before after = after ≡ before

-- the count of failed writes before and after, where a frame wasn't written by that cause
abbrev pub CountsWrites : StopCause → ℕ → ℕ → Type 0
CountsWrites WriteFault before after = Rose before after
CountsWrites Starved before after = after ≡ before
CountsWrites cause before after = ⊥

-- the life ended there by that cause, and what the link gave shows it
pub record Ceases (at : LastTurn) (pipe : Piped) (cause : StopCause) : Type 0 where
  pub may : may_end cause at.turn at.written ≡ true
  pub gave : Gave at cause pipe.gave pipe.left

-- the life ended by that cause as the program was to greet
pub record CutOff (name : List ℕ) (pipe : Piped) (cause : StopCause) : Type 0 where
  pub turn : Turn
  pub frames : List Frame
  pub greets : (turn ≡ AwaitsReady) ⊎ (turn ≡ AwaitsNext)
  pub says : Says name 0 frames turn
  pub ceases : Ceases (awaiting name (tag_after 0) frames turn) pipe cause
