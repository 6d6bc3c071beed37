use Rattle.std.proofs.Common.{take}
use Rattle.xa_domain.proofs.Leaving.{IsGreatest}
use Rattle.xa_domain.proofs.closing.last_stamp.Given as goal

abbrev pub invariant-loop-client : goal.invariant-loop-client
invariant-loop-client l = IsGreatest l.fn.seen (take l.client-index l.clients) l.last
