-- The subtype `entry` of X_C_TYPE: account int, amount long, memo string 16, one behind the other.
use Rattle.std.specs.Prelude.{ℕ, ℤ, ◌==◌, ◌&&◌, Bool, List, ◌++◌, length, take, drop, replicate, codes}
use Rattle.std.specs.Int.{w32, w64, cast_signed}
use Rattle.std.specs.Str.{bytes_eq}
use Rattle.byteorder.specs.Endian.{big_number}

-- data of that subtype has 28 octets
abbrev pub is_entry : List ℕ → List ℕ → Bool
is_entry subtype octets = bytes_eq subtype (codes "entry") && (length octets == 28)

-- four octets, big-endian in two's complement
abbrev pub account : List ℕ → ℤ
account octets = cast_signed w32 (big_number 4 octets)

-- the eight octets behind them
abbrev pub amount : List ℕ → ℤ
amount octets = cast_signed w64 (big_number 8 (drop 4 octets))

-- the same with the memo `booked`, and zero octets to the end of the field
abbrev pub booked : List ℕ → List ℕ
booked octets = take 12 octets ++ (codes "booked" ++ replicate 10 0)
