use Rattle.std.proofs.Common.{arith}
use Rattle.xa_gauge.proofs.Keeps.{joins_keep}
use Rattle.xa_gauge.proofs.gauge.Gauge.absorb.Goals as goal

pub join_seat-requires : goal.join_seat-requires
join_seat-requires c = (c.requires.pass.table, c.requires.other.table, c.args.other.idle, omega (arith, c.args.self.now.sized.0), joins_keep _ _ _ _ _ c.requires.pass.some)
