-- The workers with their desks (this project's own).
use Rattle.std.specs.Prelude.{◌≡◌, ℕ, ◌+◌, ◌++◌, List, length, map, reverse}
use Rattle.xa_client_worker.specs.xa_events.Words.{EachNumbered}
use Rattle.xa_client_worker.specs.xa_restart.Rule.{RestartState}
use Rattle.xa_client_worker.specs.xa_server.Served.{StarterShows}
use Rattle.xa_client_worker.specs.declared.working.ClientWorker.{ClientWorker}
use Rattle.xa_server_worker.specs.declared.working.ServerWorker.{ServerWorker}
use Rattle.xa_client_worker.specs.xa_desk.declared.domain.Domain.{Domain}
use Rattle.xa_boot.specs.declared.staff.Staff.{Staff}
use Rattle.xa_boot.specs.Booting.{IsNewClient, IsNewServer}
use Rattle.xa_boot.specs.Staffing.{IsFull, IsStaff}
use Rattle.xa_boot.specs.Supplies.{restarts_of}

-- so many workers are left, and what they are to get
pub record AreLeft (d : Domain) (left : ℕ) (s : Staff) : Type 0 where
  pub number : s.left ≡ left
  pub full : IsFull s
  pub staff : IsStaff d s

-- the clients have their desks, and the domain itself is left
pub record HasClients (d : Domain) (clients : List ClientWorker) : Type 0 where
  pub count : length clients ≡ d.clients
  pub each : EachNumbered (IsNewClient d) 1 clients

-- the servers with these starters have their desks
pub record HasServers {L T : Type 0} (d : Domain) (shows : T → StarterShows) (starters : List T) (servers : List (ServerWorker L T)) : Type 0 where
  pub starters_are : map (λ (w : ServerWorker L T). w.served.starter) servers ≡ starters
  pub each : EachNumbered (IsNewServer d shows) 1 servers

-- of all these starters those are left, with the lives of their servers, and the servers behind them have their desks, the last one first
pub record AreHired {L T : Type 0} (d : Domain) (shows : T → StarterShows) (all left : List T) (lives : List RestartState) (servers : List (ServerWorker L T)) : Type 0 where
  pub lives_are : (later : List RestartState) × (lives ++ later ≡ map restarts_of d.setup.servers)
  pub each_lives : length lives ≡ length left
  pub starters_are : left ++ map (λ (w : ServerWorker L T). w.served.starter) (reverse servers) ≡ all
  pub each : EachNumbered (IsNewServer d shows) (length left + 1) (reverse servers)
