use Rattle.std.proofs.Common.{reverse, subst, sym, Decides}
use Rattle.xa_events.specs.State.{State}
use Rattle.xa_events.specs.Words.{Was}
use Rattle.xa_events.specs.Cases.{BeganAt}
use Rattle.xa_events.specs.Conversation.{IsClosing}
use Rattle.xa_machine.specs.Ends.{side_at, Tells, TellsBegun}
use Rattle.xa_machine.proofs.machine.Machine.was_closed.Goals as goal

pub returns : goal.returns
returns c =
    let begun = subst (λ (s : State). TellsBegun c.begun.result c.args.sender.request s.past) (sym c.self.view_is) c.begun.ensures in
    subst (λ (s : State). Decides c.was_closed.result (Was (IsClosing s.clients (side_at c.args.sender.service) c.args.sender.request c.args.sender.sent (BeganAt c.args.sender.request s.past) (Tells c.args.whole c.args.item.now)) s.past))
    c.self.view_is (rw c.deref.ensures.value at (c.was_closed.ensures (reverse c.self.inside.events.items) begun))
