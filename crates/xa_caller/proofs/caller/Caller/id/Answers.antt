use Rattle.std.proofs.Common.{subst}
use Rattle.xa_caller.specs.Caller.{IsSound}
use Rattle.xa_caller.proofs.caller.Caller.id.Goals as goal

pub returns-clause-sound : goal.returns-clause-sound
returns-clause-sound c = subst IsSound c.self.view_is c.self.invariant.sound
