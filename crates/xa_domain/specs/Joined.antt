-- A domain whose workers are done (this project's own).
use Rattle.std.specs.Prelude.{◌≡◌, ℕ, List, length, map}
use Rattle.xa_boot.specs.xa_types.declared.setup.ServerSetup.{ServerSetup}
use Rattle.xa_boot.specs.xa_events.Words.{EachNumbered}
use Rattle.xa_history.specs.xa_script.declared.script.Client.{Client}
use Rattle.xa_boot.specs.xa_server.Served.{StarterShows}
use Rattle.xa_boot.specs.xa_server_worker.declared.working.ServerWorker.{ServerWorker}
use Rattle.xa_boot.specs.xa_server_worker.Working.{cut_in}
use Rattle.xa_history.specs.Ended.{ServerEnd}
use Rattle.xa_boot.specs.xa_desk.Desks.{IsDomain}
use Rattle.xa_boot.specs.declared.booting.Booted.{Booted}
use Rattle.xa_boot.specs.Booting.{IsDealt}
use Rattle.xa_domain.specs.Working.{EachDone, IsOver}
use Rattle.xa_domain.specs.Closing.{HasClosed}

module _ {L T : Type 0} (shows : T → StarterShows) where
  -- what a server's worker leaves of its server
  abbrev pub end_of : ServerWorker L T → ServerEnd
  end_of w = record { lives = w.served.lives.items; cut = cut_in w.cut; shown = shows w.served.starter }

  -- each client and each server of the domain is done, by these scripts, and so is the domain itself
  pub record IsJoined (scripts : List Client) (b : Booted L T) : Type 0 where
    pub domain_is : IsDomain b.domain
    pub dealt : IsDealt b.domain
    pub all_clients : length b.clients.items ≡ b.domain.clients
    pub done : EachDone b.domain 1 scripts b.clients.items
    pub names : map (λ (w : ServerWorker L T). (shows w.served.starter).name) b.servers.items ≡ map (λ (server : ServerSetup). server.name) b.domain.setup.servers
    pub over : EachNumbered (IsOver b.domain shows) 1 b.servers.items
    pub closed : HasClosed b.domain b.clients.items b.closer
