-- The bits of a number of 64 bits.
use Rattle.std.proofs.Common.{◌≡◌, ℕ, ◌+◌, ◌<◌, ◌≤◌, ◌/◌, ◌^◌, false, refl, arith}
use Rattle.std.proofs.Math.Nat.{div-eq_of_lt, pow-le-pow_right}
use Rattle.std.proofs.Math.Numerals.{add-one}
use Rattle.xa_types.specs.Kind.{has_bit}

-- none is set past the 64th
pub has_bit-past : (bits place : ℕ) → bits < 2 ^ 64 → 64 ≤ place → has_bit bits (place + 1) ≡ false
has_bit-past bits place small past =
    let larger : 2 ^ 64 ≤ 2 ^ place = pow-le-pow_right (omega arith) past in
    let none : bits / 2 ^ place ≡ 0 = div-eq_of_lt (omega arith) in
    rw (add-one, none) refl
