-- What the workers leave, taken from them (this project's own).
use Rattle.std.specs.Prelude.{◌≡◌, ◌⊎◌, ℕ, ◌+◌, ◌^◌, List, ◌∷◌, length, map, None, IfSome, IsSomeAnd}
use Rattle.std.specs.List.{All, Contains, filter}
use Rattle.std.specs.declared.vec.Vec.{Vec}
use Rattle.std.specs.declared.alloc.Global.{Global}
use Rattle.xa_boot.specs.xa_types.Setup.{numbered}
use Rattle.xa_boot.specs.xa_events.Homes.Home.{CallerHome}
use Rattle.xa_boot.specs.xa_events.Words.{EachNumbered}
use Rattle.xa_boot.specs.xa_stamp.declared.home.Stamped.{Stamped}
use Rattle.xa_boot.specs.xa_stamp.Home.{Notes}
use Rattle.xa_boot.specs.xa_worker.Crew.{stands_at}
use Rattle.xa_boot.specs.xa_worker.declared.work.Halt.{Halt}
use Rattle.xa_boot.specs.xa_worker.declared.work.Halt.TheVariants as halts
use Rattle.xa_boot.specs.xa_worker.Work.{WorkState, IsSound}
use Rattle.xa_boot.specs.xa_pipe.Standing.{Ending}
use Rattle.xa_history.specs.xa_script.declared.script.Client.{Client}
use Rattle.xa_boot.specs.xa_server.Served.{StarterShows}
use Rattle.xa_boot.specs.xa_desk.declared.domain.Domain.{Domain}
use Rattle.xa_boot.specs.xa_desk.declared.desk.Desk.{Desk}
use Rattle.xa_boot.specs.xa_desk.declared.stopped.Stopped.{Stopped}
use Rattle.xa_boot.specs.xa_desk.declared.stopped.Stopped.TheVariants.{Here, Elsewhere}
use Rattle.xa_boot.specs.xa_desk.Desks.{IsDesk}
use Rattle.xa_boot.specs.xa_desk.Whole.{Whole}
use Rattle.xa_boot.specs.xa_cell.Places.{IsShut}
use Rattle.xa_boot.specs.xa_client_worker.declared.working.ClientWorker.{ClientWorker}
use Rattle.xa_boot.specs.xa_server_worker.declared.working.ServerWorker.{ServerWorker}
use Rattle.xa_boot.specs.xa_server_worker.Working.{cut_in}
use Rattle.xa_boot.specs.declared.closer.Closer.{Closer}
use Rattle.xa_boot.specs.Booting.{work_of}
use Rattle.xa_history.specs.Ended.{HasMadeAll, EachServer}
use Rattle.xa_domain.specs.Closing.{KeepsItsOwn}
use Rattle.xa_domain.specs.declared.gathering.Gathered.{Gathered}
use Rattle.xa_domain.specs.Joined.{end_of}
use Rattle.xa_domain.specs.Stops.{first_among, stops_of}
use Rattle.xa_domain.specs.Leaving.{AreTokens, itself_of, leaving_of}

-- the desk of the worker with that number, behind its work
pub record IsLeftDesk (d : Domain) (worker : ℕ) (desk : Desk) : Type 0 where
  pub is : IsDesk d desk
  pub id : desk.caller.work.id.0 ≡ worker
  pub sound : IsSound desk.caller.work
  pub shut : IsShut desk.caller.seat

-- what the desk's worker noted at its own home
abbrev pub home_of_desk : Domain → Desk → List Stamped
home_of_desk d desk = filter (stands_at d.setup d.clients (CallerHome desk.caller.work.id.0)) desk.caller.work.own

-- the homes hold what these workers noted at their own
abbrev pub HoldTheirs : Domain → List Desk → Whole → Type 0
HoldTheirs d desks whole = All (λ (desk : Desk). All (Contains (whole.callers desk.caller.work.id.0)) (home_of_desk d desk)) desks

-- stamps came to their end at one of these workers, or for the domain itself
abbrev pub IsHaltAmong : WorkState → List Desk → Halt → Type 0
IsHaltAmong itself desks halts.NoMemory = Unit {0}
IsHaltAmong itself desks (halts.Worn stamp) = (stamp.0 ≡ 2 ^ 63) × ((itself.stamp.0 ≡ 2 ^ 63) ⊎ ((desk : Desk) × Contains desks desk × (desk.caller.work.stamp.0 ≡ 2 ^ 63)))

abbrev pub IsStopAmong : WorkState → List Desk → Stopped → Type 0
IsStopAmong itself desks (Here halt) = IsHaltAmong itself desks halt
IsStopAmong itself desks Elsewhere = Unit {0}

module _ {L T : Type 0} (d : Domain) (shows : T → StarterShows) where
  -- these are the desks of all workers, of whose tokens that of the domain itself stand first; what they leave beside is by client and by server
  pub record HasGathered (scripts : List Client) (clients : List ClientWorker) (servers : List (ServerWorker L T)) (closer : Closer) (g : Gathered L T) : Type 0 where
    pub desks : List Desk
    pub tokens_are : AreTokens (length d.queues.items) (itself_of d closer ∷ map leaving_of desks) g.tokens
    pub callers_are : map (λ (notes : Notes). notes.entries) g.callers.items ≡ map (home_of_desk d) desks
    pub count : length desks ≡ d.clients + length servers
    pub each_desk : EachNumbered (IsLeftDesk d) 1 desks
    pub keep : (whole : Whole) → HoldTheirs d desks whole → All (KeepsItsOwn d whole) clients
    pub made : g.stopped ≡ None → EachNumbered (λ k (c : Client). IsSomeAnd (numbered k desks) (HasMadeAll d c.ops)) 1 scripts
    pub each : EachServer d desks (map (end_of shows) servers) (g.stopped ≡ None)
    pub why : g.stopped ≡ first_among None (stops_of clients servers closer)
    pub itself : g.stopped ≡ None → closer.halt ≡ None
    pub worn : IfSome g.stopped (IsStopAmong (work_of d closer) desks)
    pub lives_are : map (λ (v : Vec Ending Global). v.items) g.lives.items ≡ map (λ (w : ServerWorker L T). w.served.lives.items) servers
    pub cut_are : map cut_in g.cut.items ≡ map (λ (w : ServerWorker L T). cut_in w.cut) servers
    pub starters_are : g.starters.items ≡ map (λ (w : ServerWorker L T). w.served.starter) servers
