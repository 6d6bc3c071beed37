use Rattle.std.proofs.Common.{w32, to_z, of_z}
use Rattle.xa_trials_callers.proofs.Forwarding.{may_call, priority_set}
use Rattle.xa_trials_callers.proofs.forwards.set_priority.Goals as goal

pub set_priority-requires-clause-active : goal.set_priority-requires-clause-active
set_priority-requires-clause-active g c = may_call c.args.worker.now.slot c.args.worker.now.caller c.requires.holds.stands c.requires.holds.busy

pub returns : goal.returns
returns g c = record {
  holds = priority_set c.args.setup.now c.args.cells.now 1 c.in-Some.absolute (to_z w32 (of_z w32 c.in-Some.amount)) c.in-Ok._stamp c.args.worker.now.slot c.set_priority.new.self c.args.worker.now.caller c.requires.holds c.in-Ok.ensures.ok;
}
