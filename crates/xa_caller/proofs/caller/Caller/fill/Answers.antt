use Rattle.xa_caller.proofs.Keeping.{kept-filled}
use Rattle.xa_caller.proofs.caller.Caller.fill.Goals as goal

pub invariant_of-self : goal.invariant_of-self
invariant_of-self c = kept-filled c.args.cells.now c.self.inside c.fill.new.seat c.self.invariant c.fill.ensures.seat c.fill.ensures.open
