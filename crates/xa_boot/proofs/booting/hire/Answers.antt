use Rattle.std.proofs.Common.{◌≡◌, ◌+◌, length, map, refl, ◌∙◌, ap, subst, arith}
use Rattle.std.proofs.lemmas.List.{length-map}
use Rattle.xa_client_worker.specs.xa_types.declared.setup.ServerSetup.{ServerSetup}
use Rattle.xa_client_worker.specs.xa_server.Served.{StarterShows}
use Rattle.xa_boot.specs.Hiring.{AreLeft}
use Rattle.xa_boot.proofs.Manned.{names_of}
use Rattle.xa_boot.proofs.booting.hire.Goals as goal

pub hire_servers-requires-clause-left : goal.hire_servers-requires-clause-left
hire_servers-requires-clause-left g c =
    let d = c.args.founded.domain in
    let names = ap length c.requires.names in
    let starters = length-map c.args.starters.items (λ s. (g.T.Starter.shows s).name) in
    let servers = length-map d.setup.servers (λ (server : ServerSetup). server.name) in
    let number : d.clients + length d.setup.servers + 1 ≡ d.clients + length c.args.starters.items + 1 = omega (arith, names, starters, servers) in
    subst (λ n. AreLeft d n c.args.founded.staff) number c.requires.founded.left

pub returns : goal.returns
returns g c =
    let d = c.args.founded.domain in
    let shows : g.row.T.Denot → StarterShows = g.T.Starter.shows in
    let servers = c.hire_servers.ensures.servers in
    let clients = c.hire_clients.ensures.clients in
    record {
      domain = c.requires.founded.domain;
      setup_is = refl;
      clients_are = refl;
      dealt = c.requires.founded.dealt;
      all_clients = clients.count;
      each_client = clients.each;
      starters_are = servers.starters_are;
      names = names_of d shows 1 c.hire_servers.new.servers.items servers.each ∙ ap (map (λ s. (shows s).name)) servers.starters_are ∙ c.requires.names;
      each_server = servers.each;
      closer = c.hire_closer-closer.ensures;
    }
