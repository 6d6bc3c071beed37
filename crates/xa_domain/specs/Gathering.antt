-- How what the workers leave is taken from them, one after the other (this project's own).
use Rattle.std.specs.Prelude.{◌≡◌, ℕ, ◌+◌, ◌<◌, ◌≤◌, List, [], ◌∷◌, ◌++◌, length, map, Option, None, IfSome, slice_index_or, vec_capacity}
use Rattle.std.specs.List.{All, AllZip}
use Rattle.std.specs.declared.vec.Vec.{Vec}
use Rattle.std.specs.declared.alloc.Global.{Global}
use Rattle.xa_boot.specs.xa_events.Words.{EachNumbered}
use Rattle.xa_boot.specs.xa_stamp.Home.{Notes}
use Rattle.xa_boot.specs.xa_lock.declared.makers.Made.{Made}
use Rattle.xa_boot.specs.xa_lock.declared.pass.LockPass.{LockPass}
use Rattle.xa_boot.specs.xa_cell.declared.tokens.Seat.{Seat}
use Rattle.xa_boot.specs.xa_cell.Known.{known}
use Rattle.xa_boot.specs.xa_held.declared.kept_board.BoardNote.{BoardNote}
use Rattle.xa_boot.specs.xa_held.declared.kept_queue.QueueNote.{QueueNote}
use Rattle.xa_boot.specs.xa_worker.Work.{WorkState}
use Rattle.xa_boot.specs.xa_pipe.Standing.{Ending}
use Rattle.xa_boot.specs.xa_caller.declared.cargo.Filling.{Filling}
use Rattle.xa_boot.specs.xa_caller.Changes.{FillsNoMore}
use Rattle.xa_history.specs.xa_script.declared.script.Client.{Client}
use Rattle.xa_boot.specs.xa_server.Served.{StarterShows}
use Rattle.xa_boot.specs.xa_desk.declared.domain.Domain.{Domain}
use Rattle.xa_boot.specs.xa_desk.declared.desk.Desk.{Desk}
use Rattle.xa_boot.specs.xa_desk.Desks.{IsThere, Leads}
use Rattle.xa_boot.specs.xa_desk.Whole.{Whole}
use Rattle.xa_boot.specs.xa_client_worker.declared.working.ClientWorker.{ClientWorker}
use Rattle.xa_boot.specs.xa_server_worker.declared.working.ServerWorker.{ServerWorker}
use Rattle.xa_boot.specs.xa_server_worker.Working.{cut_in}
use Rattle.xa_history.specs.Ended.{HasMadeAll}
use Rattle.xa_domain.specs.Working.{EachDone, IsOver}
use Rattle.xa_domain.specs.Closing.{KeepsItsOwn}
use Rattle.xa_domain.specs.declared.tokens.Tokens.{Tokens}
use Rattle.xa_domain.specs.declared.gathering.Gathered.{Gathered}
use Rattle.xa_domain.specs.Leaving.{Leaving, AreTokens, leaving_of}
use Rattle.xa_domain.specs.Stops.{first_among, why_left}
use Rattle.xa_domain.specs.Gathered.{IsLeftDesk, IsStopAmong, HoldTheirs, home_of_desk}

-- ---- room

-- there is room for so many more
abbrev pub HasSpace : {X : Type 0} → ℕ → Vec X Global → Type 0
HasSpace more v = length v.items + more ≤ vec_capacity v

-- and for the tokens of so many workers more
pub record HasTokenSpace (more : ℕ) (t : Tokens) : Type 0 where
  pub seats_space : HasSpace more t.seats
  pub boards_space : HasSpace more t.boards
  pub queues_space : All (HasSpace more) t.queues.items
  pub clocks_space : HasSpace more t.clocks

-- and for what so many workers more leave
pub record HasWorkerSpace {L T : Type 0} (more : ℕ) (g : Gathered L T) : Type 0 where
  pub tokens_space : HasTokenSpace more g.tokens
  pub callers_space : HasSpace more g.callers

-- and so many servers more
pub record HasServerSpace {L T : Type 0} (more : ℕ) (g : Gathered L T) : Type 0 where
  pub worker_space : HasWorkerSpace more g
  pub lives_space : HasSpace more g.lives
  pub cut_space : HasSpace more g.cut
  pub starters_space : HasSpace more g.starters

-- ---- tokens

-- behind the passes of each queue stands one more
pub record AreAdded (passes : List (Option (LockPass (QueueNote Filling)))) (old new : List (Vec (LockPass (QueueNote Filling)) Global)) : Type 0 where
  pub count : length new ≡ length old
  pub each : (k : ℕ) (default : Vec (LockPass (QueueNote Filling)) Global) → k < length old
      → IsThere (λ pass. (slice_index_or new k default).items ≡ (slice_index_or old k default).items ++ pass ∷ []) (slice_index_or passes k None)
  pub capacity : (k : ℕ) (default : Vec (LockPass (QueueNote Filling)) Global) → vec_capacity (slice_index_or new k default) ≡ vec_capacity (slice_index_or old k default)

-- a worker's seat and passes stand behind those of the others
pub record AddsTokens (seat : Seat Filling) (board : Option (LockPass BoardNote)) (queues : List (Option (LockPass (QueueNote Filling)))) (clock : Option (LockPass Made)) (old new : Tokens) : Type 0 where
  pub are : (work : WorkState) (n : ℕ) (all : List Leaving) → AreTokens n all old → AreTokens n (all ++ record { work = work; seat = seat; board = board; queues = queues; clock = clock } ∷ []) new
  pub space : (more : ℕ) → HasTokenSpace (more + 1) old → HasTokenSpace more new

-- ---- the workers

-- so far these are the tokens of that one and of the workers at these desks, what the workers noted at their own homes, and why one of them stopped
pub record HasTaken {L T : Type 0} (d : Domain) (itself : Leaving) (desks : List Desk) (g : Gathered L T) : Type 0 where
  pub tokens_are : AreTokens (length d.queues.items) (itself ∷ map leaving_of desks) g.tokens
  pub callers_are : map (λ (notes : Notes). notes.entries) g.callers.items ≡ map (home_of_desk d) desks
  pub each_desk : EachNumbered (IsLeftDesk d) 1 desks
  pub worn : IfSome g.stopped (IsStopAmong itself.work desks)

-- all clients are done by these scripts, and nothing but that one's tokens was taken
pub record IsBeforeClients {L T : Type 0} (d : Domain) (itself : Leaving) (scripts : List Client) (clients : List ClientWorker) (g : Gathered L T) : Type 0 where
  pub done : EachDone d 1 scripts clients
  pub taken : HasTaken d itself [] g

-- the clients' are taken, which left these desks
pub record HasClients {L T : Type 0} (d : Domain) (itself : Leaving) (scripts : List Client) (clients : List ClientWorker) (old new : Gathered L T) : Type 0 where
  pub desks : List Desk
  pub taken : HasTaken d itself desks new
  pub count : length desks ≡ length clients
  pub keep : (whole : Whole) → HoldTheirs d desks whole → All (KeepsItsOwn d whole) clients
  pub made : new.stopped ≡ None → AllZip (λ (c : Client) (desk : Desk). HasMadeAll d c.ops desk) scripts desks
  pub why : new.stopped ≡ first_among old.stopped (map why_left clients)
  pub before : new.stopped ≡ None → old.stopped ≡ None

-- so far of some of the clients, and these are left
pub record HasClientsSo {L T : Type 0} (d : Domain) (itself : Leaving) (scripts : List Client) (clients rest : List ClientWorker) (old new : Gathered L T) : Type 0 where
  pub its : List Client
  pub later : List Client
  pub front : List ClientWorker
  pub scripts_are : its ++ later ≡ scripts
  pub clients_are : front ++ rest ≡ clients
  pub has : HasClients d itself its front old new
  pub left : EachDone d (length front + 1) later rest

-- what servers alone leave wasn't taken since
pub record KeepsServers {L T : Type 0} (old new : Gathered L T) : Type 0 where
  pub same_lives : new.lives ≡ old.lives
  pub same_cut : new.cut ≡ old.cut
  pub same_starters : new.starters ≡ old.starters

-- the desk as it is given up: its worker notes nothing more, and fills no more cells
pub record IsGivenUp (d : Domain) (old new : Desk) : Type 0 where
  pub leads : Leads d old new
  pub work : new.caller.work ≡ old.caller.work
  pub phase : new.caller.phase ≡ old.caller.phase
  pub fills : FillsNoMore (known old.caller.seat) (known new.caller.seat)

module _ {L T : Type 0} (d : Domain) (shows : T → StarterShows) where
  -- all servers are done, and what the clients leave, at these desks, was taken
  pub record IsBeforeServers (itself : Leaving) (desks : List Desk) (servers : List (ServerWorker L T)) (g : Gathered L T) : Type 0 where
    pub over : EachNumbered (IsOver d shows) 1 servers
    pub taken : HasTaken d itself desks g
    pub count : length desks ≡ d.clients
    pub no_lives : g.lives.items ≡ []
    pub no_cut : g.cut.items ≡ []
    pub no_starters : g.starters.items ≡ []

  -- the servers' are taken too, which left those desks
  pub record HasServers (itself : Leaving) (desks : List Desk) (servers : List (ServerWorker L T)) (old new : Gathered L T) : Type 0 where
    pub ends : List Desk
    pub given_up : AllZip (λ (w : ServerWorker L T) (desk : Desk). IsGivenUp d w.desk desk) servers ends
    pub taken : HasTaken d itself (desks ++ ends) new
    pub before : new.stopped ≡ None → old.stopped ≡ None
    pub why : new.stopped ≡ first_among old.stopped (map (λ (w : ServerWorker L T). w.stopped) servers)
    pub going : new.stopped ≡ None → All (λ (w : ServerWorker L T). w.stopped ≡ None) servers
    pub lives_are : map (λ (v : Vec Ending Global). v.items) new.lives.items ≡ map (λ (w : ServerWorker L T). w.served.lives.items) servers
    pub cut_are : map cut_in new.cut.items ≡ map (λ (w : ServerWorker L T). cut_in w.cut) servers
    pub starters_are : new.starters.items ≡ map (λ (w : ServerWorker L T). w.served.starter) servers

  -- so far of some of the servers, and these are left
  pub record HasServersSo (itself : Leaving) (desks : List Desk) (servers rest : List (ServerWorker L T)) (old new : Gathered L T) : Type 0 where
    pub front : List (ServerWorker L T)
    pub servers_are : front ++ rest ≡ servers
    pub has : HasServers itself desks front old new
    pub left : EachNumbered (IsOver d shows) (length front + 1) rest
