use Rattle.std.proofs.Common.{arith}
use Rattle.xa_route.proofs.Bits.{has_bit-past}
use Rattle.xa_route.proofs.rows.has_bit.Goals as goal

pub returns-else-place-lt64 : goal.returns-else-place-lt64
returns-else-place-lt64 c = grind (arith, has_bit-past c.args.bits c.args.place c.ranges.bits.fits c.if-place-lt64.false)
