-- A server's slot with its starter and its lives (this project's own).
use Rattle.std.specs.Prelude.{◌≡◌, ◌⊎◌, ℕ, List, Option, Some, None}
use Rattle.xa_caller.specs.xa_types.declared.ids.Generation.{Generation}
use Rattle.xa_link.specs.Links.{IsFresh}
use Rattle.xa_link.specs.Starts.{AsksFor}
pub use Rattle.xa_link.specs.Starts.{StarterShows}
use Rattle.xa_link.specs.Told.{Rose}
use Rattle.xa_pipe.specs.Standing.{LifeState}
use Rattle.xa_pipe.specs.Changes.{begun}
use Rattle.xa_caller.specs.xa_worker.Work.{WorkState}
use Rattle.xa_caller.specs.xa_worker.declared.work.Halt.{Halt}
use Rattle.xa_caller.specs.xa_worker.declared.work.Halt.TheVariants.{NoMemory}
use Rattle.xa_server.specs.Noting.{HaltsWith}
use Rattle.xa_server.specs.declared.slot.ServerSlot.{ServerSlot}
use Rattle.xa_server.specs.Changes.{Starts, FailsToStart, next_life}

-- the next life was started and has begun
pub record Begins (name : List ℕ) (tick : ℕ) (life : LifeState) (slot' slot : ServerSlot) (new old : WorkState) : Type 0 where
  pub starts : Starts tick (next_life slot) slot' slot new old
  pub is : life ≡ begun name slot.server (next_life slot) life.link
  pub fresh : IsFresh name (next_life slot) life.link

-- a life has begun, or none, where the start failed
abbrev pub Tries : List ℕ → ℕ → Option LifeState → ServerSlot → ServerSlot → WorkState → WorkState → Type 0
Tries name tick (Some life) slot' slot new old = Begins name tick life slot' slot new old
Tries name tick None slot' slot new old = FailsToStart tick (next_life slot) slot' slot new old

-- the starter counted a fault where no life has begun, and none else
abbrev pub Counts : Option LifeState → ℕ → ℕ → Type 0
Counts (Some life) before now = now ≡ before
Counts None before now = Rose before now

-- memory ran out before a start was asked for
pub record HaltsUnasked (shows' shows : StarterShows) (new old : WorkState) (halt : Halt) : Type 0 where
  pub starter : shows' ≡ shows
  pub noted : new ≡ old
  pub starved : halt ≡ NoMemory

-- the program was started, and its Start isn't noted
pub record HaltsStarted (name : List ℕ) (life : Generation) (shows' shows : StarterShows) (new old : WorkState) (halt : Halt) : Type 0 where
  pub asked : AsksFor shows.asked shows'.asked name life
  pub faults : shows'.faults ≡ shows.faults
  pub halts : HaltsWith 3 new old halt

-- the start failed, and its StartFailed isn't noted
pub record HaltsFailed (name : List ℕ) (life : Generation) (shows' shows : StarterShows) (new old : WorkState) (halt : Halt) : Type 0 where
  pub asked : AsksFor shows.asked shows'.asked name life
  pub faults : Rose shows.faults shows'.faults
  pub halts : HaltsWith 1 new old halt

-- at a halt nothing was noted; the starter shows how far the start came
abbrev pub Halts : List ℕ → Generation → StarterShows → StarterShows → WorkState → WorkState → Halt → Type 0
Halts name life shows' shows new old halt = HaltsUnasked shows' shows new old halt ⊎ HaltsStarted name life shows' shows new old halt ⊎ HaltsFailed name life shows' shows new old halt
