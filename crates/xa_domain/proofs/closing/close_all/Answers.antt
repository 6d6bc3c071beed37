use Rattle.xa_domain.proofs.Stepping.{closes_trans}
use Rattle.xa_domain.proofs.closing.close_all.Goals as goal

pub returns-in_err-close-clause-closes : goal.returns-in_err-close-clause-closes
returns-in_err-close-clause-closes g c = closes_trans c.args.closer.now c.loop-place.closer c.close.new.closer c.loop-place.invariant.closes c.close.ensures.closes

pub loop-place-preserved : goal.loop-place-preserved
loop-place-preserved g c = record { closes = closes_trans c.args.closer.now c.loop-place.closer c.close.new.closer c.loop-place.invariant.closes c.close.ensures.closes; all = c.in_ok-close.ensures.closed c.loop-place.invariant.all }
