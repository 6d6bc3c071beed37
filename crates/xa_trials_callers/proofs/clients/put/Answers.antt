use Rattle.std.proofs.Common.{rules}
use Rattle.xa_trials_callers.proofs.Calling.{aimed}
use Rattle.xa_trials_callers.proofs.clients.put.Goals as goal

pub loop-attempt-preserved : goal.loop-attempt-preserved
loop-attempt-preserved g c =
    let l = c.loop-attempt in
    record {
      draft = aimed c.args.setup.now c.args.cells.now l.client.last c.args.found.now l.entry c.aim.new.self l.client.caller l.invariant.draft _ c.in-At.next c.in-At.event c.in-At.ensures.aims;
      why = search rules;
    }
