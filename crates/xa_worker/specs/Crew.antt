-- What is known of all homes and of all workers once every thread is joined and every lock is closed (this project's own). Workers are callers:
-- 0 is the domain, then come the clients, and then the servers.
use Rattle.std.specs.Prelude.{◌≡◌, ◌⊎◌, ℕ, ◌+◌, ◌<◌, ◌≤◌, ◌^◌, Bool, true, List, [], length, map, reverse}
use Rattle.std.specs.List.{All, Contains, filter}
use Rattle.xa_types.specs.declared.stamp.Stamp.{Stamp}
use Rattle.xa_types.specs.declared.setup.Setup.{Setup}
use Rattle.xa_events.specs.declared.event.Event.{Event}
use Rattle.xa_events.specs.declared.event.Event.TheVariants.{Advertise, Withdraw, Sweep, Down, Close}
use Rattle.xa_events.specs.Words.{AtEach, count}
use Rattle.xa_events.specs.Homes.{Home, same_home, worker_of, at_home}
use Rattle.xa_events.specs.Homes.Home.{BoardHome, QueueHome, ClockHome}
use Rattle.xa_events.specs.State.{caller_of}
use Rattle.xa_events.specs.Board.{boot, published}
use Rattle.xa_events.specs.Queue.{waiting, is_down, is_closed}
use Rattle.xa_events.specs.Server.{is_gone, was_shut_down, AllGone}
use Rattle.xa_events.specs.Caller.{has_left}
use Rattle.xa_events.specs.Cases.{HomePart, WorkerPart, ByDomain}
use Rattle.xa_events.specs.Local.{worker_events}
use Rattle.xa_stamp.specs.declared.home.Stamped.{Stamped}
use Rattle.xa_stamp.specs.Home.{Notes, Rises, last_stamp}
use Rattle.xa_lock.specs.declared.makers.Made.{Made}
use Rattle.xa_lock.specs.Pages.{StartsWith, entries_by}
use Rattle.xa_lock.specs.Makers.{maker_of, noted_in}
use Rattle.xa_worker.specs.Seen.{past_in, StandsBehind, SawFronts, WasTold, IsBehind}

-- an event of the domain, which asks nothing of the events of its worker: a server may note it too
abbrev pub IsOfDomain : Event → Type 0
IsOfDomain (Advertise a) = ByDomain a.by a.op
IsOfDomain (Withdraw w) = ByDomain w.by w.op
IsOfDomain (Sweep x) = Unit {0}
IsOfDomain (Down queue) = Unit {0}
IsOfDomain (Close queue) = Unit {0}
IsOfDomain _ = ⊥

-- the worker may note that event: it is its own, or the domain's
abbrev pub MayNote : ℕ → ℕ → Event → Type 0
MayNote clients worker e = ((0 < worker) × (worker_of clients e ≡ worker)) ⊎ IsOfDomain e

-- the entry stands at that home
abbrev pub stands_at : Setup → ℕ → Home → Stamped → Bool
stands_at setup clients home noted = at_home setup clients home noted.event

-- a home with the makers of its entries, each of whom is one of so many workers: its stamps rise
pub record IsHomeOf (workers : ℕ) (entries : List Made) : Type 0 where
  pub first : Stamp
  pub rises : Rises first (noted_in entries)
  pub made : All (λ entry. maker_of entry < workers) entries

-- before any stamp
abbrev pub no_stamp : Stamp
no_stamp = record { 0 = 0 }

-- what a worker noted at all homes, where it has seen these entries of them and that is the last stamp of the boot: its stamps rise, each event is
-- one that it may note, and met what is asked of the worker's events before it, and the fronts that it rests on were seen
pub record IsWork (setup : Setup) (clients : ℕ) (last : Stamp) (seen : Home → List Stamped) (worker : ℕ) (noted : List Stamped) : Type 0 where
  pub rises : Rises no_stamp noted
  pub may : All (λ x. MayNote clients worker x.event) noted
  pub met : AtEach (WorkerPart setup clients) (worker_events clients worker (past_in noted))
  pub behind : All (λ x. IsBehind last x.stamp x.event) noted
  pub saw : AtEach (λ x older. SawFronts setup clients seen x.stamp x.event (map (λ y. y.event) older)) (reverse noted)

-- the boot stands first on the board, up to that stamp
pub record IsBooted (setup : Setup) (last : Stamp) (entries : List Stamped) : Type 0 where
  pub front : List Stamped
  pub stands : StartsWith entries front
  pub until : All (λ noted. noted.stamp.0 ≤ last.0) front
  pub whole : boot setup ≤ published (past_in front)

-- each event that a worker noted was told what it rests on, where the homes have these entries
abbrev pub TellsEach : Setup → ℕ → (Home → List Stamped) → ℕ → List Stamped → Type 0
TellsEach setup clients entries worker noted = AtEach (λ (x : Stamped) older. WasTold setup clients entries x.stamp (worker_events clients worker (map (λ (y : Stamped). y.event) older)) x.event) (reverse noted)

-- the homes of so many workers: of each worker they hold what it noted, and what it was told of
pub record IsCrew (setup : Setup) (clients workers : ℕ) (kept : Home → List Made) (noted : ℕ → List Stamped) : Type 0 where
  pub last : Stamp
  pub homes : (home : Home) → IsHomeOf workers (kept home)
  pub booted : IsBooted setup last (noted_in (kept BoardHome))
  pub work : (worker : ℕ) → worker < workers → IsWork setup clients last (λ home. noted_in (kept home)) worker (noted worker)
  pub told : (worker : ℕ) → worker < workers → TellsEach setup clients (λ home. noted_in (kept home)) worker (noted worker)
  pub theirs : (worker : ℕ) → worker < workers → (home : Home) → noted_in (entries_by maker_of worker (kept home)) ≡ filter (stands_at setup clients home) (noted worker)

-- at the homes that are shared each event met what is asked of the home's events before it
pub record AllMet (setup : Setup) (kept : Home → List Made) : Type 0 where
  pub board : AtEach (HomePart setup) (past_in (noted_in (kept BoardHome)))
  pub clock : AtEach (HomePart setup) (past_in (noted_in (kept ClockHome)))
  pub queues : (queue : ℕ) → AtEach (HomePart setup) (past_in (noted_in (kept (QueueHome queue))))

-- the entry stands among these, and its event met what is asked of its home by the events of those before it
abbrev pub MetAmong : Setup → List Stamped → Stamped → Type 0
MetAmong setup entries x = StandsBehind entries x (HomePart setup x.event)

-- all is over, by what each worker noted and by what stands at the queues, where nothing waits any more
pub record AllOver (setup : Setup) (clients : ℕ) (kept : Home → List Made) (noted : ℕ → List Stamped) : Type 0 where
  pub left : (client : ℕ) → 0 < client → client < clients + 1 → has_left client (worker_events clients client (past_in (noted client))) ≡ true
  pub over : (server : ℕ) → 0 < server → server < length setup.servers + 1
      → (was_shut_down server (worker_events clients (caller_of clients server) (past_in (noted (caller_of clients server)))) ≡ true)
      ⊎ (is_gone server (worker_events clients (caller_of clients server) (past_in (noted (caller_of clients server)))) ≡ true)
  pub closed : (queue : ℕ) → 0 < queue → queue < length setup.queues + 1 → is_closed queue (past_in (noted_in (kept (QueueHome queue)))) ≡ true
  pub empty : (queue : ℕ) → 0 < queue → queue < length setup.queues + 1 → waiting setup queue (past_in (noted_in (kept (QueueHome queue)))) ≡ []
  pub down : (queue : ℕ) → 0 < queue → queue < length setup.queues + 1 → AllGone setup queue (past_in (noted_in (kept (QueueHome queue)))) → is_down queue (past_in (noted_in (kept (QueueHome queue)))) ≡ true

-- what a worker has to show of the event that it notes next
pub record IsNextWork (setup : Setup) (clients : ℕ) (last : Stamp) (seen : Home → List Stamped) (worker : ℕ) (noted : List Stamped) (x : Stamped) : Type 0 where
  pub later : last_stamp no_stamp noted < x.stamp.0
  pub bound : x.stamp.0 ≤ 2 ^ 63
  pub may : MayNote clients worker x.event
  pub met : worker_of clients x.event ≡ worker → WorkerPart setup clients x.event (worker_events clients worker (past_in noted))
  pub behind : IsBehind last x.stamp x.event
  pub saw : SawFronts setup clients seen x.stamp x.event (past_in noted)

-- these are all homes that have entries, in this order, each once
pub record AreHomes (names : List Home) (kept : Home → List Made) (homes : List Notes) : Type 0 where
  pub once : (home : Home) → count (same_home home) names ≤ 1
  pub rest : (home : Home) → count (same_home home) names ≡ 0 → kept home ≡ []
  pub are : map (λ (notes : Notes). notes.entries) homes ≡ map (λ home. noted_in (kept home)) names

-- the stamp is one more than 0, or than that of an entry of some home
pub record IsNextStamp (entries : Home → List Stamped) (stamp : Stamp) : Type 0 where
  pub before : ℕ
  pub next : stamp.0 ≡ before + 1
  pub known : (before ≡ 0) ⊎ ((home : Home) × (x : Stamped) × Contains (entries home) x × (x.stamp.0 ≡ before))
