use Rattle.std.proofs.Common.{ℕ, List, map, ap, ◌∙◌, sym, subst}
use Rattle.xa_boot.specs.xa_types.declared.setup.Setup.{Setup}
use Rattle.xa_boot.specs.xa_server.Served.{StarterShows}
use Rattle.xa_boot.specs.xa_server_worker.Working.{cut_in}
use Rattle.xa_domain.specs.Serving.{ServeEnds}
use Rattle.xa_domain.proofs.Joining.{by_itself}
use Rattle.xa_domain.proofs.Nothing.{unasked, each_there, none_ends}
use Rattle.xa_domain.proofs.serving.serve_with.Goals as goal

pub serve_by-requires-clause-booted : goal.serve_by-requires-clause-booted
serve_by-requires-clause-booted g c lives within = by_itself g.T.Starter.shows c.args.setup _ c.args.starters.items c.in-Ok.booted c.in-Ok.ensures.booted

pub returns-in-Ok : goal.returns-in-Ok
returns-in-Ok g c =
    let r = c.serve_by.result in
    subst (λ (s : Setup). ServeEnds g.T.Starter.shows s c.args.clients.now r.halt r.homes.homes (map (λ v. v.items) r.lives.items) (map cut_in r.cut.items) r.starters.items)
    c.in-Ok.ensures.booted.setup_is c.serve_by.ensures

pub returns-in-Err : goal.returns-in-Err
returns-in-Err g c =
    let shows : g.row.T.Denot → StarterShows = g.T.Starter.shows in
    let r = c.none_served.result in
    let e = c.none_served.ensures in
    subst (λ starters. ServeEnds shows c.args.setup c.args.clients.now r.halt r.homes.homes (map (λ v. v.items) r.lives.items) (map cut_in r.cut.items) starters) (sym (ap (λ v. v.items) e.starters ∙ c.in-Err.ensures.back))
    (none_ends shows c.args.setup c.args.clients.now c.args.starters.items (each_there shows c.args.setup c.args.starters.items c.requires.names) c.requires.unasked (unasked shows c.args.setup c.args.starters.items c.requires.names c.requires.unasked)
    r.halt r.homes.homes (map (λ v. v.items) r.lives.items) (map cut_in r.cut.items) e.halt e.homes (ap (map (λ v. v.items)) e.lives) (ap (map cut_in) e.cut))
