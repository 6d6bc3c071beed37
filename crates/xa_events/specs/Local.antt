-- Events of which each meets its parts where they are asked (this project's own): the home part among the events of its home, the worker part
-- among those of its worker, and what it names of other homes at the moment at which that was seen.
use Rattle.std.specs.Prelude.{◌≡◌, ℕ, ◌+◌, ◌≤◌, false, List, IsSomeAnd}
use Rattle.std.specs.List.{filter}
use Rattle.xa_types.specs.declared.setup.Setup.{Setup}
use Rattle.xa_types.specs.Setup.{queue_of}
use Rattle.xa_events.specs.declared.event.Event.{Event}
use Rattle.xa_events.specs.declared.event.Event.TheVariants.{Accept, Forward, Down, Stop}
use Rattle.xa_events.specs.declared.event.Forwarded.{Forwarded}
use Rattle.xa_events.specs.declared.event.StopCause.TheVariants.{Shutdown}
use Rattle.xa_events.specs.Words.{latest, AtEach, IsEarlier}
use Rattle.xa_events.specs.Homes.{Home, at_home, of_worker, HeldInHand}
use Rattle.xa_events.specs.Homes.Home.{BoardHome, QueueHome}
use Rattle.xa_events.specs.Board.{boot, published}
use Rattle.xa_events.specs.Server.{AllGone}
use Rattle.xa_events.specs.Caller.{is_conversational}
use Rattle.xa_events.specs.Request.{is_entry_of}
use Rattle.xa_events.specs.Cases.{HomePart, WorkerPart, IsBooted, NamedBefore, NoRows, IsShut, RowStands, RowAdmits}

-- the events of that home
abbrev pub home_events : Setup → ℕ → Home → List Event → List Event
home_events setup clients home past = filter (at_home setup clients home) past

-- the events of that worker
abbrev pub worker_events : ℕ → ℕ → List Event → List Event
worker_events clients worker past = filter (of_worker clients worker) past

-- at some moment behind the boot every server of the queue was gone, by the queue's own events, and no row of it stood, by the board's own
pub record SawNoRows (setup : Setup) (clients queue : ℕ) (past : List Event) : Type 0 where
  pub moment : List Event
  pub stood : IsEarlier moment past
  pub gone : AllGone setup queue (home_events setup clients (QueueHome queue) moment)
  pub booted : boot setup ≤ published (home_events setup clients BoardHome moment)
  pub none : NoRows setup queue (home_events setup clients BoardHome moment)

-- the queue was seen closed, with nothing that waits
pub record SawShut (setup : Setup) (clients queue : ℕ) (past : List Event) : Type 0 where
  pub seen : List Event
  pub stood : IsEarlier seen (home_events setup clients (QueueHome queue) past)
  pub shut : IsShut setup queue seen

-- a request that was sent so may be forwarded, for the hop-th time
abbrev pub Forwardable : ℕ → Event → Type 0
Forwardable hop (Accept a) = (is_conversational a.mode ≡ false) × (hop ≡ 1)
Forwardable hop (Forward f) = hop ≡ f.hop + 1
Forwardable hop _ = ⊥

-- the row stands, and the server saw at its own queue, when it took the request or later, how that was sent last
pub record SawForwardable (setup : Setup) (clients : ℕ) (f : Forwarded) (past : List Event) : Type 0 where
  pub row : RowStands setup f.version f.service f.queue.0 (RowAdmits setup false f.routine f.payload) past
  pub sent : HeldInHand setup clients f.server.0 (λ moment. IsSomeAnd (latest (is_entry_of f.request) moment) (Forwardable f.hop)) past

-- what the event names of other homes, as it was seen
abbrev pub SeenBefore : Setup → ℕ → Event → List Event → Type 0
SeenBefore setup clients (Down queue) past = SawNoRows setup clients queue.0 past
SeenBefore setup clients (Stop x) past = x.cause ≡ Shutdown → SawShut setup clients (queue_of setup x.server.0) past
SeenBefore setup clients (Forward f) past = SawForwardable setup clients f past
SeenBefore setup clients e past = NamedBefore setup clients e past

pub record SeenPart (setup : Setup) (clients : ℕ) (e : Event) (past : List Event) : Type 0 where
  pub booted : IsBooted setup e past
  pub named : SeenBefore setup clients e past

-- each event meets its three parts; past is the events, the newest first
pub record Local (setup : Setup) (clients : ℕ) (past : List Event) : Type 0 where
  pub homes : (home : Home) → AtEach (HomePart setup) (home_events setup clients home past)
  pub workers : (worker : ℕ) → AtEach (WorkerPart setup clients) (worker_events clients worker past)
  pub before : AtEach (SeenPart setup clients) past
