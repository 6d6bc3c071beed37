use Rattle.std.proofs.Common.{rules, arith}
use Rattle.xa_lock.proofs.Steps.{exchange_keeps}
use Rattle.xa_lock.proofs.guarded.Guarded.try_take.Goals as goal

pub compare_exchange-requires : goal.compare_exchange-requires
compare_exchange-requires g c = (search rules, search rules, exchange_keeps g.T.Chronicle.entries g.T.Chronicle.maker _ _ _ _ _ c.requires.free (omega arith))
