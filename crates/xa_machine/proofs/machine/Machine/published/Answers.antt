use Rattle.std.proofs.Common.{◌≡◌, ◌∙◌, reverse, subst}
use Rattle.xa_events.specs.State.{State}
use Rattle.xa_events.specs.Board.{published}
use Rattle.xa_machine.proofs.Reading.{published_is}
use Rattle.xa_machine.proofs.machine.Machine.published.Goals as goal

pub returns : goal.returns
returns c = let t = c.self.invariant.tabled in
    subst (λ (s : State). c.count_changes.result ≡ published s.past) c.self.view_is (rw c.deref.ensures.value at c.count_changes.ensures ∙ published_is c.self.inside.tables.board.items (reverse c.self.inside.events.items) t.changed)
