use Rattle.std.proofs.Common.{◌+◌}
use Rattle.xa_caller.proofs.Keeping.{reserved}
use Rattle.xa_caller.proofs.caller.Caller.reserve.Goals as goal

pub invariant_of-self : goal.invariant_of-self
invariant_of-self c = reserved c.self.inside c.reserve.new.self (c.count-out.result + c.args.more) c.reserve.result c.self.invariant c.reserve.ensures.ok c.reserve.ensures.kept
