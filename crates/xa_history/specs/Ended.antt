-- How the workers of a domain ended, by what their desks show (this project's own).
use Rattle.std.specs.Prelude.{◌≡◌, ℕ, ◌+◌, true, List, length, map, Some, IsSomeAnd}
use Rattle.xa_client_worker.specs.xa_types.declared.call.Op.{Op}
use Rattle.xa_client_worker.specs.xa_types.declared.setup.ServerSetup.{ServerSetup}
use Rattle.xa_client_worker.specs.xa_types.Setup.{numbered, queue_of}
use Rattle.xa_client_worker.specs.xa_events.Words.{EachNumbered}
use Rattle.xa_client_worker.specs.xa_stamp.Home.{Notes}
use Rattle.xa_client_worker.specs.xa_worker.Ending.{AreAll}
use Rattle.xa_client_worker.specs.xa_ticks.Clock.{made_in as moves_in}
use Rattle.xa_client_worker.specs.xa_held.Board.{made_in}
use Rattle.xa_client_worker.specs.xa_held.Kept.{Kept}
use Rattle.xa_client_worker.specs.xa_worker.Work.{WorkState}
use Rattle.xa_client_worker.specs.xa_caller.declared.cargo.Filling.{Filling}
use Rattle.xa_client_worker.specs.xa_pipe.Standing.{LifeState, Ending}
use Rattle.xa_client_worker.specs.xa_server.Served.{StarterShows}
use Rattle.xa_client_worker.specs.xa_desk.declared.domain.Domain.{Domain}
use Rattle.xa_client_worker.specs.xa_desk.declared.desk.Desk.{Desk}
use Rattle.xa_client_worker.specs.xa_desk.Desks.{FitsCalls}
use Rattle.xa_client_worker.specs.Ending.{HasMade}
use Rattle.xa_server_worker.specs.Lives.{ServerShows}
use Rattle.xa_history.specs.Joined.{Back, AllLeft}

-- what a server's worker hands back: its lives that ended, that which went on at a halt, and what its starter shows
pub record ServerEnd : Type 0 where
  pub lives : List Ending
  pub cut : List LifeState
  pub shown : StarterShows

-- a client made all of these calls, and left
pub record HasMadeAll (d : Domain) (ops : List Op) (desk : Desk) : Type 0 where
  pub made : HasMade (length ops) desk
  pub fits : FitsCalls d ops desk

-- each server's worker shows how its server lived; to its end, where the run came to its own
abbrev pub EachServer : Domain → List Desk → List ServerEnd → Type 0 → Type 0
EachServer d desks servers Whole = EachNumbered (λ k (x : ServerEnd). IsSomeAnd (numbered (d.clients + k) desks) (λ desk. ServerShows d x.shown.name (queue_of d.setup k) k desk x.lives x.cut x.shown Whole)) 1 servers

-- all of it: the workers left, these are all homes, in their order, and each server shows its lives
pub record Ends (d : Domain) (b : Back) (domain : WorkState) (desks : List Desk) (servers : List ServerEnd) (homes : List Notes) (Whole : Type 0) : Type 0 where
  pub left : AllLeft d b domain desks
  pub homes_are : AreAll d.setup d.clients (made_in b.board.notes) (moves_in b.clock.entries) (map (λ (kept : Kept Filling). kept.queue.entries) b.queues) b.own homes
  pub count : length servers ≡ length d.setup.servers
  pub names : map (λ (x : ServerEnd). x.shown.name) servers ≡ map (λ (server : ServerSetup). server.name) d.setup.servers
  pub each : EachServer d desks servers Whole

-- the run came to its end: each client made its calls and left, and each queue was closed
pub record EndsWhole (d : Domain) (b : Back) (desks : List Desk) (calls : List (List Op)) : Type 0 where
  pub clients : length calls ≡ d.clients
  pub made : EachNumbered (λ k ops. IsSomeAnd (numbered k desks) (HasMadeAll d ops)) 1 calls
  pub closed : (queue : ℕ) (kept : Kept Filling) → numbered queue b.queues ≡ Some kept → kept.queue.closed ≡ true
