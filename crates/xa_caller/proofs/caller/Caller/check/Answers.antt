use Rattle.std.proofs.Common.{sym}
use Rattle.xa_caller.proofs.caller.Caller.check.Goals as goal

pub returns-in-Some-clause-ok : goal.returns-in-Some-clause-ok
returns-in-Some-clause-ok c = c.in-Some.ensures c.args.self.now.work.setup (sym c.requires.shapes)
