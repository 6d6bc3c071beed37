use Rattle.std.proofs.Common.{refl}
use Rattle.xa_held.proofs.Keeping.{quiet_kept}
use Rattle.xa_held.proofs.kept_queue.KeptQueue.close.Goals as goal

pub invariant_of-self-2 : goal.invariant_of-self-2
invariant_of-self-2 g c = quiet_kept c.self.inside c.args.seen c.args.maker c.in_ok-noted.noted _ _ c.close.new.self c.in_ok-noted.ensures.noted refl refl (λ r. refl) tt c.self.invariant
