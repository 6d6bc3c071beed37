use Rattle.std.proofs.Common.{◌≡◌, ◌+◌, ◌∙◌, reverse, subst}
use Rattle.xa_events.specs.State.{State}
use Rattle.xa_events.specs.Board.{published}
use Rattle.xa_machine.proofs.Boards.{many_is}
use Rattle.xa_machine.proofs.machine.Machine.many_versions.Goals as goal

pub returns : goal.returns
returns c =
    subst (λ (s : State). c.count_versions.result ≡ published s.past + 1) c.self.view_is
    (rw c.deref.ensures.value at c.count_versions.ensures ∙ many_is c.self.inside.setup (reverse c.self.inside.events.items) c.self.inside.tables.versions.items c.self.invariant.tabled.versions)
