use Rattle.std.proofs.Common.{subst}
use Rattle.xa_caller.specs.Caller.{IsSound}
use Rattle.xa_caller.proofs.caller.Caller.abandon.Goals as goal

pub returns-clause-sound : goal.returns-clause-sound
returns-clause-sound c = subst IsSound c.self.view_is c.self.invariant.sound

pub give_up-requires-clause-open_ : goal.give_up-requires-clause-open_
give_up-requires-clause-open_ c = c.self.invariant.places
