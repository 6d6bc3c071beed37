use Rattle.xa_trials_callers.proofs.Forwarding.{aimed_out, back_out}
use Rattle.xa_trials_callers.proofs.forwards.put.Goals as goal

pub loop-attempt-preserved : goal.loop-attempt-preserved
loop-attempt-preserved g c =
    let l = c.loop-attempt in
    aimed_out c.args.setup.now c.args.cells.now c.requires.found.0 c.args.found.now l.entry l.event l.worker.slot l.worker.caller l.invariant c.requires.found.1 _ c.in-At.next c.in-At.anew c.in-At.ensures.aims c.in-At.ensures.on_way

pub refuse-requires : goal.refuse-requires
refuse-requires g c =
    let l = c.loop-attempt in
    back_out c.args.setup.now c.args.cells.now c.requires.found.0 c.args.found.now l.entry l.event l.worker.slot l.worker.caller l.invariant c.requires.found.1 _ c.in-Past.back c.in-Past.ensures.aims c.in-Past.ensures.on_way
