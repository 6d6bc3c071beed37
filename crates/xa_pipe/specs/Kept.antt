-- How a life is kept. No public contract rests on this file.
use Rattle.std.specs.Prelude.{◌≡◌, ℕ, ◌+◌, ◌%◌, ◌^◌, Option, option_map}
use Rattle.xa_link.specs.declared.link.Fate.{Fate}
use Rattle.xa_link.specs.declared.link.Fate.TheVariants as fates
use Rattle.xa_link.specs.Links.{LinkShows}
use Rattle.xa_events.specs.declared.event.StopCause.{StopCause}
use Rattle.xa_events.specs.declared.event.StopCause.TheVariants.{Shutdown, Exit, WriteFault}
use Rattle.xa_pipe.specs.declared.course.Course.{Course}
use Rattle.xa_pipe.specs.declared.turn.Written.{Written}
use Rattle.xa_pipe.specs.declared.turn.Written.TheVariants.{Cut, Missing}
use Rattle.xa_frame.specs.declared.frame.Body.{Body}
use Rattle.xa_frame.specs.declared.frame.Body.TheVariants.{Return as ReturnBody, Forward as ForwardBody}
use Rattle.xa_pipe.specs.Pipe.{HasRead, shown}
use Rattle.xa_pipe.specs.Standing.{LifeState, Ending, IsSound, tag_of, is_killed, is_open}

-- the number of the next INVOKE behind what the program said
abbrev pub tag_behind : Body → ℕ → ℕ
tag_behind (ReturnBody value code payload) tag = (tag + 1) % 2 ^ 32
tag_behind (ForwardBody service payload) tag = (tag + 1) % 2 ^ 32
tag_behind body tag = tag

-- what the link took of a frame that wasn't written by that cause
abbrev pub unwritten : StopCause → Written
unwritten WriteFault = Cut
unwritten cause = Missing

-- what became of the program of a life that ends by that cause, where the link tells it: behind SHUTDOWN it goes on, behind TPEXIT it was closed
abbrev pub fate_left : StopCause → Option Fate → Option Fate
fate_left Shutdown told = told
fate_left Exit told = option_map (λ _. fates.Closed) told
fate_left cause told = option_map (λ _. fates.Killed) told

-- what the link shows then
abbrev pub left_by : StopCause → LinkShows → LinkShows
left_by cause link = record link { program = record link.program { fate = fate_left cause link.program.fate } }

module _ {L : Type 0} where
  abbrev pub standing_of : Course L → LifeState
  standing_of c = record { name = c.name; server = c.server; generation = c.generation; link = shown c.pipe; asked = c.asked; said = c.said; turn = c.turn }

  pub record IsKept (c : Course L) : Type 0 where
    pub sound : IsSound (standing_of c)
    pub read : HasRead c.pipe c.said
    pub tag : c.tag ≡ tag_of (standing_of c)

  -- the life that ended there
  abbrev pub ending_of : Course L → StopCause → Written → Ending
  ending_of c cause written = record { life = record (standing_of c) { link = left_by cause (shown c.pipe) }; cause = cause; written = written; killed = is_killed cause; left_open = is_open cause }
