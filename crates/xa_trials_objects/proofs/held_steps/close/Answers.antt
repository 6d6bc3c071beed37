use Rattle.xa_trials_objects.proofs.Working.{close_keeps}
use Rattle.xa_trials_objects.proofs.held_steps.close.Goals as goal

pub returns : goal.returns
returns c = close_keeps c.args.cells.now c.args.id.0 c.args.queue.now c.close-answer.new.self c.requires.is c.args.seen _ c.close-answer.result c.close-answer.ensures
