use Rattle.std.proofs.Common.{◌<◌, arith, ap, sym, subst, ◌∙◌}
use Rattle.xa_gauge.proofs.Keeps.{looks_up_keep, goes_up_keep}
use Rattle.xa_gauge.proofs.gauge.Gauge.up.Goals as goal

pub load-found-requires : goal.load-found-requires
load-found-requires g c =
    let is = c.loop.invariant.1 in
    (c.loop.invariant.0 ∙ c.requires.table, omega (arith, c.args.self.now.sized.0), looks_up_keep _ _ _ _ (subst (λ m. 0 < m.0.parts) (sym is) c.requires.some) (ap (λ m. m.0.of) is ∙ c.requires.of))

pub compare_exchange-requires : goal.compare_exchange-requires
compare_exchange-requires g c =
    let is = c.loop.invariant.1 in
    let of = ap (λ m. m.0.of) is ∙ c.requires.of in
    let looked = c.load-found.ensures.2.1 (λ e. c.if-found-self.false (e ∙ ap (λ k. k.full) (of ∙ sym c.args.self.now.same))) in
    let now = looked.0 ∙ is in (
      c.load-found.ensures.0 ∙ (c.loop.invariant.0 ∙ c.requires.table),
      omega (arith, c.args.self.now.sized.0),
      goes_up_keep _ _ _ _ (subst (λ m. 0 < m.0.parts) (sym now) c.requires.some) (ap (λ m. m.0.of) now ∙ c.requires.of) _ (subst (λ k. c.load-found.result < k.full) of looked.1),
    )
