-- What all homes of a domain hold in the end, once every worker has left (this project's own).
use Rattle.std.specs.Prelude.{◌≡◌, ◌⊎◌, ℕ, List}
use Rattle.std.specs.List.{Contains}
use Rattle.xa_server.specs.xa_types.declared.stamp.Stamp.{Stamp}
use Rattle.xa_server.specs.xa_events.Homes.{Home}
use Rattle.xa_server.specs.xa_events.Homes.Home.{BoardHome, QueueHome, ClockHome, CallerHome}
use Rattle.xa_server.specs.xa_stamp.declared.home.Stamped.{Stamped}
use Rattle.xa_server.specs.xa_lock.declared.makers.Made.{Made}
use Rattle.xa_server.specs.xa_lock.Makers.{noted_in}
use Rattle.xa_server.specs.xa_held.declared.kept_board.Look.{Look}
use Rattle.xa_server.specs.xa_held.declared.kept_board.BoardNote.TheVariants.{Looked}
use Rattle.xa_server.specs.xa_held.Board.{Held, made_in}
use Rattle.xa_server.specs.xa_held.Kept.{Kept}
use Rattle.xa_server.specs.xa_caller.declared.cargo.Filling.{Filling}
use Rattle.xa_server.specs.Told.{HasStamp}

-- the board, the queues by their numbers, the clock, and what each caller noted at its own home
pub record Whole : Type 0 where
  pub board : Held
  pub queues : ℕ → Kept Filling
  pub clock : List Made
  pub callers : ℕ → List Stamped

-- what stands at each home
abbrev pub entries_of : Whole → Home → List Stamped
entries_of whole BoardHome = noted_in (made_in whole.board.notes)
entries_of whole (QueueHome queue) = noted_in (whole.queues queue).queue.entries
entries_of whole ClockHome = noted_in whole.clock
entries_of whole (CallerHome caller) = whole.callers caller

-- the stamp is 0, or that of an event, or that of a look at the board
abbrev pub IsKnown : Whole → Stamp → Type 0
IsKnown whole stamp = (stamp.0 ≡ 0) ⊎ ((home : Home) × HasStamp (entries_of whole home) stamp) ⊎ ((look : Look) × Contains whole.board.notes (Looked look) × (look.stamp ≡ stamp))
