use Rattle.xa_trials_objects.proofs.Working.{down_keeps}
use Rattle.xa_trials_objects.proofs.held_steps.down.Goals as goal

pub returns : goal.returns
returns c = down_keeps c.args.cells.now c.args.id.0 c.args.queue.now c.down-answer.new.self c.requires.down.is c.args.seen _ c.down-answer.result c.down-answer.ensures
