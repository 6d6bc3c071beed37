use Rattle.std.proofs.Common.{get_or, sym, subst, rules}
use mir.Syntax.{named}
use denote.Param.Send.{sendable}
use Rattle.xa_boot.specs.xa_desk.Desks.{IsDomain}
use Rattle.xa_boot.specs.xa_server.Served.{StarterShows}
use Rattle.xa_boot.specs.xa_server_worker.Working.{MayServe, HasServed}
use Rattle.xa_boot.specs.Booting.{IsNewServer}
use Rattle.xa_domain.specs.Working.{IsOver}
use Rattle.xa_domain.proofs.ServerSending.{server_worker_sends}
use Rattle.xa_domain.proofs.Sharing.{shared_syncs}
use Rattle.xa_domain.proofs.Numbered.{numbered-at, numbered-went, map-went}
use Rattle.xa_domain.proofs.Working.{is_over}
use Rattle.xa_domain.proofs.crew.servers_at_work.Goals as goal

pub all_at_work-requires-send-W : goal.all_at_work-requires-send-W
all_at_work-requires-send-W g c κs inside =
    let sends = server_worker_sends _ g.L.Link g.L.Source g.L.Sink c.type_bounds.send-L _ c.type_bounds.send-T in
    search (sendable, sends.owned, sends.leaving)

pub all_at_work-requires-sync-S : goal.all_at_work-requires-sync-S
all_at_work-requires-sync-S g c κs inside = record { shared = (shared_syncs (record { mir = named 5; lft = κs.1.1.1.1.1.0 }) _ _ c.type_bounds.sync-R c.type_bounds.sync-G).shared }

pub all_at_work-requires-after_bounds : goal.all_at_work-requires-after_bounds
all_at_work-requires-after_bounds g c κs inside place w within shared lent is its =
    let d = c.args.shared.now.monitor.domain.now in
    let shows : g.row.T.Denot → StarterShows = g.T.Starter.shows in
    let at = numbered-at (IsNewServer d shows) 1 c.args.servers.now c.requires.new place w within in (
      subst (λ x. IsDomain x.monitor.domain.now × MayServe x.monitor.domain.now shows lent.now) (sym is) (c.requires.domain, subst (λ w. MayServe d shows w) (sym its) at.may),
      (
        search (sendable, c.type_bounds.send-L.owned, c.type_bounds.send-L.leaving),
        search (sendable, c.type_bounds.send-T.owned, c.type_bounds.send-T.leaving),
        search (sendable, c.type_bounds.sync-R),
        search (sendable, c.type_bounds.sync-G),
      ),
    )

pub returns-clause-over : goal.returns-clause-over
returns-clause-over g c =
    let d = c.args.shared.now.monitor.domain.now in
    let shows : g.row.T.Denot → StarterShows = g.T.Starter.shows in
    let new = c.all_at_work.new.workers in
    numbered-went (HasServed d shows) (IsNewServer d shows) (IsOver d shows) (is_over d shows) 1 c.args.servers.now new (search rules) c.requires.new (λ k w within.
    let at = c.all_at_work.ensures k w within in
    subst (λ x. HasServed d shows x (get_or new k w)) at.shows.1 (subst (HasServed d shows at.lent.now) at.after (subst (λ x. HasServed x.monitor.domain.now shows at.lent.now at.left.now) at.shows.0 at.called)))

pub returns-clause-names : goal.returns-clause-names
returns-clause-names g c =
    let d = c.args.shared.now.monitor.domain.now in
    let shows : g.row.T.Denot → StarterShows = g.T.Starter.shows in
    let new = c.all_at_work.new.workers in
    map-went (HasServed d shows) (λ w. (shows w.served.starter).name) (λ w. w.name) (λ x y served. served.starter) c.args.servers.now new (search rules) (λ k w within.
    let at = c.all_at_work.ensures k w within in
    subst (λ x. HasServed d shows x (get_or new k w)) at.shows.1 (subst (HasServed d shows at.lent.now) at.after (subst (λ x. HasServed x.monitor.domain.now shows at.lent.now at.left.now) at.shows.0 at.called)))
