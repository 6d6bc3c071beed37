-- A domain that was booted, and what its workers leave.
use Rattle.std.proofs.Common.{◌≡◌, ℕ, suc, ◌+◌, List, [], ◌∷◌, length, map, refl, sym, ◌∙◌, ap, subst}
use Rattle.xa_boot.specs.xa_types.declared.setup.Setup.{Setup}
use Rattle.xa_boot.specs.xa_types.declared.setup.ServerSetup.{ServerSetup}
use Rattle.xa_boot.specs.xa_events.Words.{EachNumbered}
use Rattle.xa_history.specs.xa_script.declared.script.Client.{Client}
use Rattle.xa_boot.specs.xa_server.Served.{StarterShows}
use Rattle.xa_boot.specs.xa_desk.declared.domain.Domain.{Domain}
use Rattle.xa_boot.specs.xa_desk.Desks.{IsDomain}
use Rattle.xa_boot.specs.xa_client_worker.declared.working.ClientWorker.{ClientWorker}
use Rattle.xa_boot.specs.xa_server_worker.declared.working.ServerWorker.{ServerWorker}
use Rattle.xa_boot.specs.declared.booting.Booted.{Booted}
use Rattle.xa_boot.specs.Booting.{HasBooted, IsDealt}
use Rattle.xa_domain.specs.Working.{EachDone, IsOver}
use Rattle.xa_domain.specs.Closing.{HasClosed}
use Rattle.xa_domain.specs.Joined.{IsJoined}

all_done : (d : Domain) (n : ℕ) (scripts : List Client) (workers : List ClientWorker) → EachDone d n scripts workers → length workers ≡ length scripts
all_done d n [] [] done = refl
all_done d n [] (w ∷ workers) done = absurd done
all_done d n (s ∷ scripts) [] done = absurd done
all_done d n (s ∷ scripts) (w ∷ workers) done = ap suc (all_done d (n + 1) scripts workers done.1)

module _ {L T : Type 0} (shows : T → StarterShows) where
  -- done is the domain of b with workers that are done
  pub joined : (setup : Setup) (starters : List T) (scripts : List Client) (b done : Booted L T) → HasBooted shows setup (length scripts) starters b → done.domain ≡ b.domain
      → EachDone b.domain 1 scripts done.clients.items → EachNumbered (IsOver b.domain shows) 1 done.servers.items
      → map (λ (w : ServerWorker L T). (shows w.served.starter).name) done.servers.items ≡ map (λ (w : ServerWorker L T). w.name) b.servers.items
      → HasClosed b.domain done.clients.items done.closer → IsJoined shows scripts done
  joined setup starters scripts b done is same each over names closed =
      let back : b.domain ≡ done.domain = sym same in
      let count : length done.clients.items ≡ b.domain.clients = all_done b.domain 1 scripts done.clients.items each ∙ sym is.clients_are in
      let its : map (λ (w : ServerWorker L T). (shows w.served.starter).name) done.servers.items ≡ map (λ (server : ServerSetup). server.name) b.domain.setup.servers =
      names ∙ (is.names ∙ ap (λ (s : Setup). map (λ (server : ServerSetup). server.name) s.servers) (sym is.setup_is)) in
      record {
        domain_is = subst IsDomain back is.domain;
        dealt = subst IsDealt back is.dealt;
        all_clients = count ∙ ap (λ (d : Domain). d.clients) back;
        done = subst (λ d. EachDone d 1 scripts done.clients.items) back each;
        names = its ∙ ap (λ (d : Domain). map (λ (server : ServerSetup). server.name) d.setup.servers) back;
        over = subst (λ d. EachNumbered (IsOver d shows) 1 done.servers.items) back over;
        closed = subst (λ d. HasClosed d done.clients.items done.closer) back closed;
      }

  -- it was booted by its own setup, with its own starters
  pub by_itself : (setup : Setup) (n : ℕ) (starters : List T) (b : Booted L T) → HasBooted shows setup n starters b → HasBooted shows b.domain.setup n (map (λ (w : ServerWorker L T). w.served.starter) b.servers.items) b
  by_itself setup n starters b is = record {
    domain = is.domain;
    setup_is = refl;
    clients_are = is.clients_are;
    dealt = is.dealt;
    all_clients = is.all_clients;
    each_client = is.each_client;
    starters_are = refl;
    names = is.names ∙ ap (λ (s : Setup). map (λ (server : ServerSetup). server.name) s.servers) (sym is.setup_is);
    each_server = is.each_server;
    closer = is.closer;
  }
