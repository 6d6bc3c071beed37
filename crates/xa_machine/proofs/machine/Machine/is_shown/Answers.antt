use Rattle.std.proofs.Common.{◌≡◌, ◌∙◌, ◌||◌, ◌==◌, ap, subst}
use Rattle.xa_events.specs.State.{State}
use Rattle.xa_events.specs.Clock.{is_shown}
use Rattle.xa_machine.proofs.machine.Machine.is_shown.Goals as goal

pub returns : goal.returns
unfolding is_shown
returns c = let t = c.self.invariant.tabled in
    subst (λ (s : State). c.either.result ≡ is_shown c.args.tick s.past) c.self.view_is
    (c.either.ensures ∙ ap (λ b. (c.args.tick == 0) || b) (rw c.deref.ensures.value at c.has_tick.ensures ∙ t.shown c.args.tick))
