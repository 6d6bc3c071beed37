-- What is left of a life that ended, or was cut, and how it is kept.
use Rattle.std.specs.Prelude.{Bool, true, false}
use Rattle.xa_link.specs.declared.link.Closed.{Closed as Closing}
use Rattle.xa_pipe.specs.declared.over.CutLife.TheInside.{Inside as Cut}
use Rattle.xa_pipe.specs.declared.over.EndedLife.TheInside.{Inside}
use Rattle.xa_pipe.specs.declared.over.Pipes.{Pipes}
use Rattle.xa_pipe.specs.declared.over.Pipes.TheVariants.{Open, Closed, Killed}
use Rattle.xa_pipe.specs.Life.{LinkShows}
use Rattle.xa_pipe.specs.Standing.{LifeState, Ending}

module _ {L : Type 0} where
  -- what the pipes show; where they are closed, what they showed then
  abbrev pub pipes_show : (L → LinkShows) → Pipes L → LinkShows
  pipes_show shows (Open link) = shows link
  pipes_show shows (Closed closed) = shows closed.was.value
  pipes_show shows (Killed killed) = shows killed.was.value

  abbrev pub are_killed : Pipes L → Bool
  are_killed (Open link) = false
  are_killed (Closed closed) = false
  are_killed (Killed killed) = true

  abbrev pub are_open : Pipes L → Bool
  are_open (Open link) = true
  are_open (Closed closed) = false
  are_open (Killed killed) = false

  abbrev pub ending : Inside L → LinkShows → Ending
  ending e link = record {
    life = record { name = e.name; server = e.server; generation = e.generation; link = link; asked = e.asked; said = e.said; turn = e.turn };
    cause = e.cause;
    written = e.written;
    killed = are_killed e.pipes;
    left_open = are_open e.pipes;
  }

  -- what closed pipes showed last
  abbrev pub closed_show : (L → LinkShows) → Closing L → LinkShows
  closed_show shows closed = shows closed.was.value

  -- the life that was cut, as it stood then
  abbrev pub cut_at : (L → LinkShows) → Cut L → LifeState
  cut_at shows c = record { name = c.name; server = c.server; generation = c.generation; link = closed_show shows c.killed; asked = c.asked; said = c.said; turn = c.turn }
