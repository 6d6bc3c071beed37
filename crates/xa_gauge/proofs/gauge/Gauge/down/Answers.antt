use Rattle.std.proofs.Common.{◌<◌, arith, ap, sym, subst, ◌∙◌}
use Rattle.xa_gauge.proofs.Keeps.{looks_down_keep, goes_down_keep}
use Rattle.xa_gauge.proofs.gauge.Gauge.down.Goals as goal

pub load-found-requires : goal.load-found-requires
load-found-requires g c =
    let is = c.loop.invariant.1 in
    (c.loop.invariant.0 ∙ c.requires.table, omega (arith, c.args.self.now.sized.0), looks_down_keep _ _ _ _ (subst (λ m. 0 < m.0.parts) (sym is) c.requires.some) (ap (λ m. m.0.of) is ∙ c.requires.of))

pub compare_exchange-requires : goal.compare_exchange-requires
compare_exchange-requires g c =
    let is = c.loop.invariant.1 in
    let looked = c.load-found.ensures.2.1 c.if-found-eq0.false in
    let now = looked.0 ∙ is in (
      c.load-found.ensures.0 ∙ (c.loop.invariant.0 ∙ c.requires.table),
      omega (arith, c.args.self.now.sized.0),
      goes_down_keep _ _ _ _ (subst (λ m. 0 < m.0.parts) (sym now) c.requires.some) (ap (λ m. m.0.of) now ∙ c.requires.of) _ (omega (arith, c.if-found-eq0.false)),
    )
