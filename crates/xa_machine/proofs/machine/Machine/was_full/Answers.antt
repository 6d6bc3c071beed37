use Rattle.std.proofs.Common.{◌≡◌, ◌∙◌, sym, ap, reverse, subst, Decides}
use Rattle.std.proofs.lemmas.List.{reverse-reverse}
use Rattle.xa_events.specs.State.{State}
use Rattle.xa_events.specs.declared.event.Evidence.TheVariants.{Queue}
use Rattle.xa_events.specs.Cases.{WasSeen}
use Rattle.xa_machine.specs.Holds.{held, log_of}
use Rattle.xa_machine.proofs.Logged.{held_is}
use Rattle.xa_machine.proofs.machine.Machine.was_full.Goals as goal

pub returns : goal.returns
returns c =
    let reads : c.is_held.result ≡ held c.args.queue.0 c.args.by.0 c.args.n (log_of c.self.inside.setup c.self.inside.clients (reverse c.self.inside.events.items)) =
    rw (c.deref.ensures.value, c.from.ensures) at c.is_held.ensures ∙ ap (held c.args.queue.0 c.args.by.0 c.args.n) (ap reverse c.self.invariant.tabled.logged ∙ reverse-reverse _) in
    let so = held_is c.self.inside.setup c.self.inside.clients c.args.by.0 c.args.queue.0 c.args.n (reverse c.self.inside.events.items) in
    subst (λ (s : State). Decides c.is_held.result (WasSeen s.setup s.clients c.args.by.0 (Queue c.args.queue c.args.n) s.past)) c.self.view_is
    (λ h. so.0 (sym reads ∙ h), λ h. reads ∙ so.1 h)
