-- Priorities: from 1 to 100 (after Tuxedo, tpsprio; that an absolute priority out of range is taken into the range is this project's own).
use Rattle.std.specs.Prelude.{ℕ, ℤ, pos, negsuc, ◌+ℤ◌, Bool, true, false, Option, Some, None, min, max}

abbrev pub clamped : ℤ → ℕ
clamped (pos n) = max 1 (min n 100)
clamped (negsuc n) = 1

-- the priority of a request to a service with that priority of its own, where the caller set one: absolute, or added to the service's own
abbrev pub priority_of : ℕ → Option (Bool × ℤ) → ℕ
priority_of own None = own
priority_of own (Some (true, amount)) = clamped amount
priority_of own (Some (false, amount)) = clamped (pos own +ℤ amount)
