use Rattle.std.proofs.Common.{◌≡◌, reverse, subst}
use Rattle.xa_events.specs.State.{State}
use Rattle.xa_events.specs.Words.{count}
use Rattle.xa_events.specs.Request.{is_forward_of}
use Rattle.xa_machine.specs.Kept.{after}
use Rattle.xa_machine.proofs.Settled.{reached_run}
use Rattle.xa_machine.proofs.machine.Machine.forwards.Goals as goal

pub returns : goal.returns
returns c =
    let past = reverse c.self.inside.events.items in
    let run = reached_run c.self.inside.setup c.self.inside.clients past c.self.invariant.reached in
    let law = c.runs_are_lawful.ensures c.self.inside.setup c.self.inside.clients (reverse past) (after c.self.inside.setup c.self.inside.clients past) run in
    subst (λ (s : State). c.forwards_of.result ≡ count (is_forward_of c.args.request) s.past) c.self.view_is ((rw c.deref.ensures.value at c.forwards_of.ensures) law.ends_once)
