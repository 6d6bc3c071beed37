use Rattle.std.proofs.Common.{reverse, subst}
use Rattle.xa_events.specs.State.{State}
use Rattle.xa_events.specs.Views.{server_view}
use Rattle.xa_machine.specs.Reads.{ServerReads}
use Rattle.xa_machine.proofs.Reading.{server_reads}
use Rattle.xa_machine.proofs.machine.Machine.server.Goals as goal

pub returns : goal.returns
returns c = let t = c.self.invariant.tabled in
    subst (λ (s : State). ServerReads c.args.server s.past c.server.result.now) c.self.view_is
    (server_reads c.args.server (reverse c.self.inside.events.items) c.server.result.now (rw c.from.ensures at (c.server.ensures (λ k. server_view k (reverse c.self.inside.events.items)) t.servers t.none_served)))
