use Rattle.xa_trials_objects.proofs.Working.{sweep_keeps, sweep_hands_out}
use Rattle.xa_trials_objects.proofs.held_steps.sweep.Goals as goal

pub told_swept-requires-clause-out : goal.told_swept-requires-clause-out
told_swept-requires-clause-out c = sweep_hands_out c.args.cells.now c.args.id.0 c.args.queue.now c.sweep-answer.new.self c.requires.down.is c.args.seen _ c.sweep-answer.result c.sweep-answer.ensures

pub returns-clause-keeps : goal.returns-clause-keeps
returns-clause-keeps c = sweep_keeps c.args.cells.now c.args.id.0 c.args.queue.now c.sweep-answer.new.self c.requires.down.is c.args.seen _ c.sweep-answer.result c.sweep-answer.ensures
