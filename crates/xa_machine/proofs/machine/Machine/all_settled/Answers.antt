use Rattle.std.proofs.Common.{reverse, subst, Decides}
use Rattle.xa_events.specs.State.{State}
use Rattle.xa_machine.specs.Kept.{after}
use Rattle.xa_machine.specs.Runs.{AllSettled}
use Rattle.xa_machine.proofs.Settled.{reached_run, settled_then, settled_when}
use Rattle.xa_machine.proofs.machine.Machine.all_settled.Goals as goal

pub returns : goal.returns
returns c =
    let past = reverse c.self.inside.events.items in
    let run = reached_run c.self.inside.setup c.self.inside.clients past c.self.invariant.reached in
    let law = c.runs_are_lawful.ensures c.self.inside.setup c.self.inside.clients (reverse past) (after c.self.inside.setup c.self.inside.clients past) run in
    let same = rw c.deref.ensures.value at c.same_count.ensures in
    subst (λ (s : State). Decides c.same_count.result (AllSettled s.past)) c.self.view_is
    (λ h. settled_when past law.ends_once (same.0 h), λ h. same.1 (settled_then past h))
