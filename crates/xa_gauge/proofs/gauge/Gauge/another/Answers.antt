use Rattle.std.proofs.Common.{arith}
use Rattle.xa_gauge.proofs.Keeps.{splits_keep}
use Rattle.xa_gauge.proofs.gauge.Gauge.another.Goals as goal

pub split_seat-requires : goal.split_seat-requires
split_seat-requires c = (c.requires.pass.table, omega (arith, c.args.self.now.sized.0), splits_keep _ _ _ c.requires.parts)
