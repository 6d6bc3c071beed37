use Rattle.std.proofs.Common.{rules, arith}
use Rattle.xa_lock.proofs.Steps.{swap_keeps}
use Rattle.xa_lock.proofs.guarded.Guarded.take_or_ask.Goals as goal

pub swap-requires : goal.swap-requires
swap-requires g c = (search rules, search rules, swap_keeps g.T.Chronicle.entries g.T.Chronicle.maker _ _ _ _ _ c.requires.free (omega arith))
