use Rattle.std.proofs.Common.{◌≡◌, length, map, sym, subst}
use mir.Syntax.{named}
use denote.Param.Send.{sendable}
use Rattle.std.specs.List.{All}
use Rattle.xa_boot.specs.xa_events.Words.{EachNumbered}
use Rattle.xa_boot.specs.xa_server.Served.{StarterShows}
use Rattle.xa_boot.specs.xa_desk.Desks.{IsDomain}
use Rattle.xa_boot.specs.Booting.{IsNewClient, IsNewServer, IsNewCloser}
use Rattle.xa_domain.specs.Working.{IsBuiltClient, IsOver}
use Rattle.xa_domain.proofs.Sharing.{shared_syncs, side_sends}
use Rattle.xa_domain.proofs.crew.run_all.Goals as goal

pub both_at_work-requires-send-A : goal.both_at_work-requires-send-A
both_at_work-requires-send-A g c κs inside = search (sendable, side_sends)

pub both_at_work-requires-sync-S : goal.both_at_work-requires-sync-S
both_at_work-requires-sync-S g c κs inside = record { shared = (shared_syncs (record { mir = named 7; lft = κs.1.1.1.1.1.1.1.0 }) _ _ c.type_bounds.sync-R c.type_bounds.sync-G).shared }

pub both_at_work-requires-clause-first : goal.both_at_work-requires-clause-first
both_at_work-requires-clause-first g c κs inside shared lent is its =
    let r = c.requires in (
      subst (λ x. IsDomain x.monitor.domain.now × All IsBuiltClient x.scripts.now × (length x.scripts.now ≡ x.monitor.domain.now.clients) × (length lent.now.clients.items ≡ x.monitor.domain.now.clients)
          × EachNumbered (IsNewClient x.monitor.domain.now) 1 lent.now.clients.items × IsNewCloser x.monitor.domain.now lent.now.closer) (sym is)
          (subst (λ l. IsDomain c.args.booted.domain × All IsBuiltClient c.args.scripts.now × (length c.args.scripts.now ≡ c.args.booted.domain.clients) × (length l.clients.items ≡ c.args.booted.domain.clients)
          × EachNumbered (IsNewClient c.args.booted.domain) 1 l.clients.items × IsNewCloser c.args.booted.domain l.closer) (sym its) (r.domain, r.built, r.scripts, r.count, r.new_clients, r.closer)),
      (search (sendable, c.type_bounds.sync-R), search (sendable, c.type_bounds.sync-G)),
    )

pub both_at_work-requires-clause-second : goal.both_at_work-requires-clause-second
both_at_work-requires-clause-second g c κs inside shared lent is its =
    let shows : g.row.T.Denot → StarterShows = g.T.Starter.shows in (
      subst (λ x. IsDomain x.monitor.domain.now × EachNumbered (IsNewServer x.monitor.domain.now shows) 1 lent.now.items) (sym is)
          (c.requires.domain, subst (λ l. EachNumbered (IsNewServer c.args.booted.domain shows) 1 l.items) (sym its) c.requires.new_servers),
      (
        search (sendable, c.type_bounds.send-L.owned, c.type_bounds.send-L.leaving),
        search (sendable, c.type_bounds.send-T.owned, c.type_bounds.send-T.leaving),
        search (sendable, c.type_bounds.sync-R),
        search (sendable, c.type_bounds.sync-G),
      ),
    )

pub returns-clause-servers : goal.returns-clause-servers
returns-clause-servers g c =
    let shows : g.row.T.Denot → StarterShows = g.T.Starter.shows in
    let at = c.both_at_work.ensures.second in
    subst (λ l. EachNumbered (IsOver c.args.booted.domain shows) 1 l.items) at.after (subst (λ x. EachNumbered (IsOver x.monitor.domain.now shows) 1 at.left.now.items) at.shows.0 at.called.0)

pub returns-clause-names : goal.returns-clause-names
returns-clause-names g c =
    let shows : g.row.T.Denot → StarterShows = g.T.Starter.shows in
    let at = c.both_at_work.ensures.second in
    subst (λ l. map (λ w. (shows w.served.starter).name) l.items ≡ map (λ w. w.name) c.args.booted.servers.items) at.after
    (subst (λ l. map (λ w. (shows w.served.starter).name) at.left.now.items ≡ map (λ w. w.name) l.items) at.shows.1 at.called.1)
