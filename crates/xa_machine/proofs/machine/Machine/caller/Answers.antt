use Rattle.std.proofs.Common.{reverse, subst}
use Rattle.xa_events.specs.State.{State}
use Rattle.xa_events.specs.Board.{boot}
use Rattle.xa_events.specs.Views.{caller_view}
use Rattle.xa_machine.specs.Reads.{CallerReads}
use Rattle.xa_machine.proofs.Reading.{caller_reads}
use Rattle.xa_machine.proofs.machine.Machine.caller.Goals as goal

pub returns : goal.returns
returns c = let t = c.self.invariant.tabled in
    subst (λ (s : State). CallerReads s.setup s.clients c.args.caller s.past c.caller.result.now) c.self.view_is
    (caller_reads c.self.inside.setup c.self.inside.clients c.args.caller (reverse c.self.inside.events.items) c.caller.result.now
    (c.caller.ensures (boot c.self.inside.setup) (λ k. caller_view c.self.inside.clients k (reverse c.self.inside.events.items)) t.callers t.none_called))
