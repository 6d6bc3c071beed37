use Rattle.std.proofs.Common.{◌∙◌, ap}
use Rattle.xa_types.specs.declared.ids.Generation.{Generation}
use Rattle.xa_events.specs.declared.event.StopCause.TheVariants.{EndOfInput}
use Rattle.xa_server.specs.declared.slot.ServerSlot.{ServerSlot}
use Rattle.xa_trials_callers.proofs.Forwarding.{waits_then}
use Rattle.xa_trials_callers.proofs.Serving.{idle_dies, death_later}
use Rattle.xa_trials_callers.proofs.forwards.is_idle.Goals as goal

pub give-requires-clause-later : goal.give-requires-clause-later
give-requires-clause-later g c =
    let slot : ServerSlot = c.args.worker.now.slot in
    let old = c.args.worker.now.caller.work in
    let waits = waits_then slot.doing c.requires.doing (λ off. c.if-life-eq0.false (ap (λ (life : Generation). life.0) c.life-life.ensures ∙ off)) in
    death_later EndOfInput c.in-Ok.closing c.died.new.self slot c.died.new.caller.work old (idle_dies slot.doing EndOfInput c.in-Ok.closing c.died.new.self slot c.died.new.caller.work old waits c.in-Ok.ensures.ok)
