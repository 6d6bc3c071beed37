-- Which starts count. No public contract rests on this file.
use Rattle.std.specs.Prelude.{ℕ, ◌-◌, Bool, nat_lt}

-- the start lies within GRACE
abbrev pub is_within : ℕ → ℕ → ℕ → Bool
is_within grace now start = nat_lt (now - start) grace
