use Rattle.std.proofs.Common.{◌≡◌, ◌∙◌, ap, sym, reverse, subst}
use Rattle.xa_events.specs.State.{State}
use Rattle.xa_events.specs.Queue.{waiting}
use Rattle.xa_events.specs.Order.{next_of}
use Rattle.xa_events.specs.Request.{priority_at}
use Rattle.xa_machine.proofs.machine.Machine.next_take.Goals as goal

pub returns : goal.returns
returns c =
    let reads = subst (λ (s : State). c.queue.result.now.waiting.items ≡ waiting s.setup c.args.queue s.past) (sym c.self.view_is) c.queue.ensures.waiting in
    subst (λ (s : State). c.next_of.result ≡ next_of (priority_at s.past) (waiting s.setup c.args.queue s.past) c.args.k) c.self.view_is
    (rw (c.deref.ensures.value, c.deref-2.ensures.value) at c.next_of.ensures ∙ ap (λ rs. next_of (priority_at (reverse c.self.inside.events.items)) rs c.args.k) reads)
