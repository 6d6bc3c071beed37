use Rattle.std.proofs.Common.{◌+◌, ◌≤◌, arith, ap, ◌∙◌, subst}
use Rattle.xa_gauge.proofs.Keeps.{counts_keep}
use Rattle.xa_gauge.proofs.gauge.Gauge.close.Goals as goal

pub load-requires : goal.load-requires
load-requires c = (c.requires.pass.table, omega (arith, c.args.self.sized.0), counts_keep _ _ _ _ c.requires.pass.some c.requires.all)

pub returns : goal.returns
returns c = record {
  level = c.load.ensures.2.1 ∙ ap (λ k. k.start + c.args.pass.seat.me.0.ups) c.requires.pass.of;
  few = subst (λ k. c.load.result ≤ k.full) c.requires.pass.of c.load.ensures.2.2;
}
