-- What each call on a life changes (this project's own).
use Rattle.std.specs.Prelude.{◌≡◌, ◌⊎◌, ℕ, List, [], ◌∷◌, ◌++◌}
use Rattle.xa_types.specs.declared.ids.ServerId.{ServerId}
use Rattle.xa_types.specs.declared.ids.Generation.{Generation}
use Rattle.xa_types.specs.declared.data.Data.{Data}
use Rattle.xa_link.specs.Links.{closed}
use Rattle.xa_link.specs.Told.{Grew}
use Rattle.xa_frame.specs.declared.frame.Frame.{Frame}
use Rattle.xa_frame.specs.declared.frame.Body.{Body}
use Rattle.xa_frame.specs.declared.frame.Body.TheVariants.{Op as OpBody, Return as ReturnBody, Forward as ForwardBody}
use Rattle.xa_frame.specs.Spelling.{spelled}
use Rattle.xa_events.specs.declared.event.StopCause.TheVariants.{Exit, Starved}
use Rattle.xa_pipe.specs.declared.turn.Turn.TheVariants.{AwaitsReady, AwaitsNext, AwaitsInvoke, Serving, Finishing, Performing}
use Rattle.xa_pipe.specs.declared.turn.Written.TheVariants.{Whole}
use Rattle.xa_pipe.specs.Frames.{ready_frame, next_frame}
use Rattle.xa_pipe.specs.Pipe.{invoke_frame}
use Rattle.xa_pipe.specs.Life.{Turn, LinkShows, MaySay, turn_behind}
use Rattle.xa_pipe.specs.Standing.{LifeState, Ending, tag_of, cut_short}

-- a life as it begins: nothing went through its link
abbrev pub begun : List ℕ → ServerId → Generation → LinkShows → LifeState
begun name server generation link = record { name = name; server = server; generation = generation; link = link; asked = []; said = []; turn = AwaitsReady }

-- ---- what the program says

-- what comes next behind what the program said
abbrev pub turn_after : Turn → Body → Turn
turn_after AwaitsReady body = AwaitsNext
turn_after AwaitsNext body = AwaitsInvoke
turn_after Serving (ReturnBody value code payload) = turn_behind value
turn_after Serving (ForwardBody service payload) = AwaitsNext
turn_after Serving (OpBody op) = Performing
turn_after Finishing (ReturnBody value code payload) = turn_behind value
turn_after Finishing (ForwardBody service payload) = AwaitsNext
turn_after turn body = turn

-- the life with one more frame of its program
abbrev pub with_said : Frame → LinkShows → LifeState → LifeState
with_said f link life = record life { link = link; said = life.said ++ f ∷ []; turn = turn_after life.turn f.body }

-- the program said that frame, which was its turn; nothing was written to it
pub record Heard (f : Frame) (new old : LifeState) : Type 0 where
  pub may : MaySay old.name (tag_of old) old.turn f
  pub made : new ≡ with_said f new.link old
  pub took : new.link.took ≡ old.link.took

-- the life ended in that turn as a frame of its program was to come; nothing was written to it
pub record Fell (over : Ending) (old : LifeState) : Type 0 where
  pub life : over.life ≡ record old { link = over.life.link }
  pub took : over.life.link.took ≡ old.link.took
  pub written : over.written ≡ Whole

-- the program said READY and NEXT
pub record Greeted (new old : LifeState) : Type 0 where
  pub made : new ≡ record old { link = new.link; said = old.said ++ ready_frame old.name ∷ next_frame ∷ []; turn = AwaitsInvoke }
  pub took : new.link.took ≡ old.link.took

-- the life ended as READY was to come, or as NEXT was to come behind it
abbrev pub FellGreeting : Ending → LifeState → Type 0
FellGreeting over old = Fell over old ⊎ Fell over (with_said (ready_frame old.name) over.life.link old)

-- ---- what is written to it

-- the life with that INVOKE, or that REPLY, as the last frame that was due
abbrev pub with_asked : Frame → LinkShows → LifeState → LifeState
with_asked f link life = record life { link = link; asked = life.asked ++ f ∷ []; turn = Serving }

-- the request to that routine of that service, with the next number
abbrev pub next_invoke : List ℕ → List ℕ → Data → LifeState → Frame
next_invoke service routine payload life = invoke_frame service routine (tag_of life) payload

-- that INVOKE or REPLY was written; nothing was read
pub record Invoked (f : Frame) (new old : LifeState) : Type 0 where
  pub made : new ≡ with_asked f (record old.link { took = new.link.took; left = new.link.left }) old
  pub took : Grew old.link.took new.link.took (spelled f)

-- the life ended as that INVOKE or REPLY was to be written, and it wasn't written whole; nothing was read
pub record Unsent (f : Frame) (over : Ending) (old : LifeState) : Type 0 where
  pub life : over.life ≡ with_asked f over.life.link old
  pub gave : over.life.link.gave ≡ old.link.gave
  pub unwritten : over.written ≡ Whole → ⊥

-- the life ended as SHUTDOWN was to be written; nothing was read
pub record ShutDown (over : Ending) (old : LifeState) : Type 0 where
  pub life : over.life ≡ record old { link = over.life.link }
  pub gave : over.life.link.gave ≡ old.link.gave

-- the life with no call to come any more
abbrev pub spent : LifeState → LifeState
spent life = record life { turn = Finishing }

-- the life ended for want of memory as a call was to be made: its program was ended by force, and nothing was read or written
pub record Starves (over : Ending) (old : LifeState) : Type 0 where
  pub life : over.life ≡ cut_short old
  pub cause : over.cause ≡ Starved
  pub written : over.written ≡ Whole

-- the life ended by TPEXIT: its link was closed, and nothing was read or written
pub record Exits (over : Ending) (old : LifeState) : Type 0 where
  pub life : over.life ≡ record old { link = closed old.link }
  pub cause : over.cause ≡ Exit
  pub written : over.written ≡ Whole
