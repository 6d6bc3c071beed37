use Rattle.std.proofs.Common.{sym, subst}
use Rattle.xa_events.specs.declared.event.Event.{Event}
use Rattle.xa_server.specs.Forwarding.{IsOnWay}
use Rattle.xa_trials_callers.proofs.forwards.go_on.Goals as goal

pub forwarded-requires-clause-out : goal.forwarded-requires-clause-out
forwarded-requires-clause-out g c = (c.args.entry, subst (λ (e : Event). IsOnWay c.args.entry e c.args.worker.now.slot c.args.worker.now.caller) (sym c.seen.ensures) c.requires.way)
