-- A life of a server as it stands, by what it did itself, and how one ended (this project's own).
use Rattle.std.specs.Prelude.{◌≡◌, ℕ, Bool, true, false, List, [], ◌∷◌, ◌++◌, length, Option, Some, IfSome}
use Rattle.xa_types.specs.declared.ids.ServerId.{ServerId}
use Rattle.xa_types.specs.declared.ids.Generation.{Generation}
use Rattle.xa_types.specs.declared.setup.Setup.{Setup}
use Rattle.xa_types.specs.declared.call.Op.{Op}
use Rattle.xa_link.specs.declared.link.Fate.{Fate}
use Rattle.xa_link.specs.declared.link.Fate.TheVariants as fates
use Rattle.xa_link.specs.Links.{HasFate, killed}
use Rattle.xa_frame.specs.declared.frame.Frame.{Frame}
use Rattle.xa_frame.specs.Spelling.{all_spelled}
use Rattle.xa_events.specs.declared.event.Event.{Event}
use Rattle.xa_events.specs.declared.event.StopCause.{StopCause}
use Rattle.xa_events.specs.declared.event.StopCause.TheVariants.{Shutdown, Exit}
use Rattle.xa_pipe.specs.declared.turn.Turn.TheVariants.{AwaitsInvoke, Finishing}
use Rattle.xa_events.specs.Words.{AtEach}
use Rattle.xa_pipe.specs.Frames.{shutdown_frame, invokes_in, farewell, frames_out}
use Rattle.xa_pipe.specs.Life.{Turn, Written, LifeId, LinkShows, LastTurn, Says, IsOf, IsCounted, Took, Gave, EachReplied, MayFail, AllCame, StopsClosed, StopsSpent, cause_of, came_in, finishes_in, calls_in, replied_of, tag_after, may_end}

-- what a life is: its server's name and number, its generation, what its link shows, the INVOKEs and REPLYs that were written to it, what its program
-- said, and what comes next
pub record LifeState : Type 0 where
  pub name : List ℕ
  pub server : ServerId
  pub generation : Generation
  pub link : LinkShows
  pub asked : List Frame
  pub said : List Frame
  pub turn : Turn

-- the INVOKEs among these
abbrev pub invokes_of : LifeState → List Frame
invokes_of life = invokes_in life.asked

-- the calls that its program asked for and that were made, in order
abbrev pub calls_of : LifeState → List Op
calls_of life = replied_of life.turn (calls_in life.said)

-- how many invocations its program answered, by a RETURN or a FORWARD
abbrev pub returned : LifeState → ℕ
returned life = length (finishes_in life.said)

-- the tag of the next RETURN or FORWARD, which is the number of the INVOKE in hand or else of the next one
abbrev pub tag_of : LifeState → ℕ
tag_of life = tag_after (returned life)

abbrev pub id_of : LifeState → LifeId
id_of life = record { name = life.name; server = life.server.0; generation = life.generation.0 }

-- the octets, where they are told, begin with those of these frames
abbrev pub GaveFirst : Option (List ℕ) → List Frame → Type 0
GaveFirst gave frames = IfSome gave (λ octets. (rest : List ℕ) × (octets ≡ all_spelled frames ++ rest))

-- what holds of a life of whose program that became: it spoke in turn, the octets that went to it are those of the INVOKEs and REPLYs, a REPLY for each OP,
-- those that came from it begin with those of what it said, nothing failed, and its link is its own
pub record SoundWith (became : Fate) (life : LifeState) : Type 0 where
  pub says : Says life.name (returned life) life.said life.turn
  pub took : IfSome life.link.took (λ octets. octets ≡ all_spelled life.asked)
  pub gave : GaveFirst life.link.gave life.said
  pub replied : EachReplied life.turn life.said life.asked
  pub reads : life.link.reads ≡ 0
  pub writes : life.link.writes ≡ 0
  pub whose : IsOf (id_of life) life.link.program.whose
  pub fate : HasFate became life.link.program

-- a life that goes on: its program runs
abbrev pub IsSound : LifeState → Type 0
IsSound life = SoundWith fates.Running life

-- a life that was cut: its program was ended by force
abbrev pub IsCutOff : LifeState → Type 0
IsCutOff life = SoundWith fates.Killed life

-- the life as it is cut
abbrev pub cut_short : LifeState → LifeState
cut_short life = record life { link = killed life.link }

-- ---- a life that ended

-- what is left of a life: how it stood in its last turn, why it ended, whether the last frame that was due was written, whether its program was
-- ended by force, and whether its pipes are open
pub record Ending : Type 0 where
  pub life : LifeState
  pub cause : StopCause
  pub written : Written
  pub killed : Bool
  pub left_open : Bool

-- the frames that were due to the program; where it waited for a request, SHUTDOWN was the last
abbrev pub due_in : Turn → List Frame → List Frame
due_in AwaitsInvoke asked = asked ++ shutdown_frame ∷ []
due_in turn asked = asked

-- whether a life that ends so is killed
abbrev pub is_killed : StopCause → Bool
is_killed Shutdown = false
is_killed Exit = false
is_killed cause = true

-- whether the pipes of a life that ends so stay open
abbrev pub is_open : StopCause → Bool
is_open Shutdown = true
is_open cause = false

-- what becomes of its program
abbrev pub fate_by : StopCause → Fate
fate_by Shutdown = fates.Running
fate_by Exit = fates.Closed
fate_by cause = fates.Killed

-- where the life ended
abbrev pub last_turn : Ending → LastTurn
last_turn over = record { name = over.life.name; tag = tag_of over.life; frames = over.life.said; turn = over.life.turn; written = over.written }

-- what holds of each life that ended: its program had spoken in turn, it may end so, what its link took and gave shows that, one read or write failed
-- exactly where that was the cause, the link is its own, it was killed exactly where it ended neither by SHUTDOWN nor by TPEXIT, its pipes are
-- open exactly where it ended by SHUTDOWN, and the link shows that of its program
pub record IsOver (over : Ending) : Type 0 where
  pub says : Says over.life.name (returned over.life) over.life.said over.life.turn
  pub may : may_end over.cause over.life.turn over.written ≡ true
  pub took : IfSome over.life.link.took (Took over.written (due_in over.life.turn over.life.asked))
  pub replied : EachReplied over.life.turn over.life.said over.life.asked
  pub gave : Gave (last_turn over) over.cause over.life.link.gave over.life.link.left
  pub counted : IsCounted over.cause over.life.link.reads over.life.link.writes
  pub whose : IsOf (id_of over.life) over.life.link.program.whose
  pub killed : over.killed ≡ is_killed over.cause
  pub left_open : over.left_open ≡ is_open over.cause
  pub fate : HasFate (fate_by over.cause) over.life.link.program

-- how a life that ended went and why it ended, by its events, in a domain of so many clients: they have its cause, the INVOKEs and REPLYs that were due
-- to it, and SHUTDOWN where it ended so, and what its RETURNs and FORWARDs came to; where it waited for a request, its queue was closed; and where it
-- could call no more, its server had made its last call
pub record IsLife (setup : Setup) (clients : ℕ) (past : List Event) (over : Ending) : Type 0 where
  pub over_is : IsOver over
  pub stopped : cause_of over.life.server.0 over.life.generation.0 past ≡ Some over.cause
  pub asked : frames_out clients over.life.server.0 over.life.generation.0 past ≡ over.life.asked ++ farewell over.cause
  pub came : AllCame setup (MayFail setup clients) over.cause over.life.turn (finishes_in over.life.said) (came_in over.life.server.0 over.life.generation.0 past)
  pub closed : over.life.turn ≡ AwaitsInvoke → AtEach (StopsClosed setup over.life.server.0 over.life.generation.0) past
  pub spent : over.life.turn ≡ Finishing → AtEach (StopsSpent clients over.life.server.0 over.life.generation.0) past
