use Rattle.std.proofs.Common.{◌≡◌, reverse, subst, arith}
use Rattle.xa_events.specs.State.{State}
use Rattle.xa_events.specs.Board.{rows_of_version}
use Rattle.xa_machine.proofs.machine.Machine.rows_at.Goals as goal

pub rows_at-requires : goal.rows_at-requires
rows_at-requires c = let many = c.self.invariant.tabled.versions.many in omega (arith, many)

pub returns : goal.returns
returns c =
    subst (λ (s : State). c.rows_at.result.now ≡ rows_of_version s.setup s.past c.args.version) c.self.view_is
    (c.rows_at.ensures c.self.inside.setup (reverse c.self.inside.events.items) c.self.invariant.tabled.versions)
