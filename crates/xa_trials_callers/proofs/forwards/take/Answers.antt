use Rattle.std.proofs.Common.{◌∙◌, ap}
use Rattle.xa_types.specs.declared.ids.Generation.{Generation}
use Rattle.xa_types.specs.declared.ids.ServerId.{ServerId}
use Rattle.xa_events.specs.declared.event.Event.TheVariants.{Take}
use Rattle.xa_server.specs.declared.slot.ServerSlot.{ServerSlot}
use Rattle.xa_trials_callers.proofs.Forwarding.{taken}
use Rattle.xa_trials_callers.proofs.Serving.{idle_in}
use Rattle.xa_trials_callers.proofs.forwards.take.Goals as goal

pub begin-requires-clause-taken : goal.begin-requires-clause-taken
begin-requires-clause-taken g c =
    let s : ServerSlot = c.args.worker.now.slot in
    let taken = λ (server : ServerId) (generation : Generation). Take (record { request = c.args.entry.request; server = server; generation = generation; k = 1 }) in
    record {
      idle = idle_in s.doing c.requires.waits.free;
      k = 1;
      is = c.seen.ensures ∙ ap (λ (v : ServerId). taken v c.life.result) c.server.ensures ∙ ap (taken s.server) c.life.ensures;
    }

pub returns-clause-holds : goal.returns-clause-holds
returns-clause-holds g c = taken c.args.setup.now c.args.cells.now c.args.entry _ c.args.worker.now.slot c.begin.new.self c.args.worker.now.caller c.begin.new.caller c.requires.waits.between c.requires.ticket c.begin.ensures.slot c.begin.ensures.noted c.begin.ensures.stands c.begin.ensures.rest
