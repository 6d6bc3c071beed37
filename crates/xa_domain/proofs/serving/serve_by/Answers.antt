use Rattle.std.proofs.Common.{List, ℕ, map, ◌∙◌, ap, subst}
use Rattle.xa_boot.specs.xa_server.Served.{StarterShows}
use Rattle.xa_boot.specs.xa_server_worker.Working.{cut_in}
use Rattle.xa_boot.specs.xa_desk.declared.domain.Domain.{Domain}
use Rattle.xa_domain.specs.Serving.{ServeEnds}
use Rattle.xa_domain.proofs.Ends.{serve_ends}
use Rattle.xa_domain.proofs.Joining.{joined}
use Rattle.xa_domain.proofs.serving.serve_by.Goals as goal

pub hand_back-requires-clause-joined : goal.hand_back-requires-clause-joined
hand_back-requires-clause-joined g c =
    let shows : g.row.T.Denot → StarterShows = g.T.Starter.shows in
    let e = c.run_all-done.ensures in
    (c.args.clients.now, joined shows c.args.booted.domain.setup _ c.args.clients.now c.args.booted c.run_all-done.result c.requires.booted e.domain e.clients e.servers e.names e.closer)

pub returns : goal.returns
returns g c =
    let shows : g.row.T.Denot → StarterShows = g.T.Starter.shows in
    let e = c.run_all-done.ensures in
    let h = c.hand_back.result in
    let count = ap (λ (d : Domain). d.clients) e.domain ∙ c.requires.booted.clients_are in
    subst (λ d. ServeEnds shows d.setup c.args.clients.now h.halt h.homes.homes (map (λ v. v.items) h.lives.items) (map cut_in h.cut.items) h.starters.items) e.domain
    (serve_ends shows c.args.clients.now c.run_all-done.result h count
    (c.hand_back.ensures c.args.clients.now (joined shows c.args.booted.domain.setup _ c.args.clients.now c.args.booted c.run_all-done.result c.requires.booted e.domain e.clients e.servers e.names e.closer)))
