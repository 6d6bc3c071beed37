-- What a worker's pass knows of the pool, and of which pool it is (this project's own).
use Rattle.std.specs.Prelude.{ℕ, ◌+◌, List, [], ◌∷◌}
use Rattle.xa_gauge.specs.declared.moves.Limits.{Limits}
use Rattle.xa_gauge.specs.declared.moves.Knows.{Knows}
use Rattle.xa_gauge.specs.Known.{known as gauged, limits_of as gauge_limits, IsPassOf as IsGaugePassOf}
use Rattle.xa_pool.specs.declared.pool.Pool.{Pool}
use Rattle.xa_pool.specs.declared.pool.BlockPass.{BlockPass}

-- what a pass knows: its takes, `Down` or `Empty`, and its gives, `Up` or `Full`, in their order
abbrev pub known : BlockPass → Knows
known p = gauged p.pass

-- so many blocks, all at home at first, and so many passes
abbrev pub limits : ℕ → ℕ → Limits
limits blocks passes = record { start = blocks; full = blocks; passes = passes }

-- what the pool was made with
abbrev pub limits_of : Pool → Limits
limits_of pool = gauge_limits pool.home

-- the pass is of this pool
abbrev pub IsPassOf : Pool → BlockPass → Type 0
IsPassOf pool p = IsGaugePassOf pool.home p.pass

-- how many blocks were taken, by these passes
abbrev pub taken : List BlockPass → ℕ
taken [] = 0
taken (p ∷ ps) = (known p).downs + taken ps

-- how many were given back
abbrev pub given : List BlockPass → ℕ
given [] = 0
given (p ∷ ps) = (known p).ups + given ps
