use Rattle.std.proofs.Common.{ℕ, List, [], map, inr, refl, sym, ◌∙◌, ap, subst}
use Rattle.std.proofs.lemmas.List.Elements.{All-nil}
use Rattle.xa_boot.specs.xa_server_worker.Lives.{HasStarted}
use Rattle.xa_boot.specs.xa_server.Served.{StarterShows}
use Rattle.xa_boot.specs.xa_server_worker.Working.{cut_in}
use Rattle.xa_domain.specs.Serving.{ServeEnds}
use Rattle.xa_domain.proofs.Nothing.{none_ends}
use Rattle.xa_domain.proofs.serving.serve_all.Goals as goal

pub returns-in_default-clause-ends : goal.returns-in_default-clause-ends
returns-in_default-clause-ends g c =
    let shows : g.row.Y-Start.Denot → StarterShows = g.Y.Start.Starter.shows in
    let r = c.none_served.result in
    let e = c.none_served.ensures in
    subst (ServeEnds shows c.args.setup c.args.clients.now r.halt r.homes.homes (map (λ v. v.items) r.lives.items) (map cut_in r.cut.items)) (sym (ap (λ v. v.items) e.starters ∙ c.new.ensures.items))
    (none_ends shows c.args.setup c.args.clients.now [] (inr refl) (All-nil (λ s. HasStarted (shows s).name 0 0 (shows s))) tt r.halt r.homes.homes (map (λ v. v.items) r.lives.items) (map cut_in r.cut.items) e.halt e.homes (ap (map (λ v. v.items)) e.lives) (ap (map cut_in) e.cut))

pub returns-in_default-starters-clause-ends : goal.returns-in_default-starters-clause-ends
returns-in_default-starters-clause-ends g c =
    let shows : g.row.Y-Start.Denot → StarterShows = g.Y.Start.Starter.shows in
    let r = c.none_served-in_default-starters.result in
    let e = c.none_served-in_default-starters.ensures in
    subst (ServeEnds shows c.args.setup c.args.clients.now r.halt r.homes.homes (map (λ v. v.items) r.lives.items) (map cut_in r.cut.items)) (sym (ap (λ v. v.items) e.starters ∙ c.new-in_default-starters.ensures.items))
    (none_ends shows c.args.setup c.args.clients.now [] (inr refl) (All-nil (λ s. HasStarted (shows s).name 0 0 (shows s))) tt r.halt r.homes.homes (map (λ v. v.items) r.lives.items) (map cut_in r.cut.items) e.halt e.homes (ap (map (λ v. v.items)) e.lives) (ap (map cut_in) e.cut))
