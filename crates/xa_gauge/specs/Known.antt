-- What a pass knows, and of which gauge it is (this project's own).
use Rattle.std.specs.Prelude.{◌≡◌, ◌<◌}
use Rattle.xa_gauge.specs.declared.gauge.Gauge.{Gauge}
use Rattle.xa_gauge.specs.declared.gauge.GaugePass.{GaugePass}
use Rattle.xa_gauge.specs.declared.moves.Limits.{Limits}
use Rattle.xa_gauge.specs.declared.moves.Knows.{Knows}

-- what a pass knows
abbrev pub known : GaugePass → Knows
known p = p.seat.me.0

-- what a gauge was made with
abbrev pub limits_of : Gauge → Limits
limits_of g = g.table.shared.key

-- the pass is of this gauge
pub record IsPassOf (g : Gauge) (p : GaugePass) : Type 0 where
  pub table : p.seat.table_id ≡ g.table.shared.table_id
  pub of : (known p).of ≡ limits_of g
  pub some : 0 < (known p).parts
