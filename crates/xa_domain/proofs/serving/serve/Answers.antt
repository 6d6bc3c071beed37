use Rattle.std.proofs.Common.{map, subst}
use Rattle.xa_boot.specs.xa_server_worker.Working.{cut_in}
use Rattle.xa_domain.specs.Serving.{ServeEnds}
use Rattle.xa_domain.proofs.serving.serve.Goals as goal

pub returns-clause-ends : goal.returns-clause-ends
returns-clause-ends g c =
    let r = c.serve_all.result in
    subst (λ clients. ServeEnds g.Y.Start.Starter.shows c.args.setup clients r.halt r.homes.homes (map (λ v. v.items) r.lives.items) (map cut_in r.cut.items) r.starters.items)
    c.slice.ensures c.serve_all.ensures.ends
