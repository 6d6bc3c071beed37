use Rattle.xa_trials_objects.proofs.Working.{none_by, take_keeps, take_hands_out}
use Rattle.xa_trials_objects.proofs.held_steps.take.Goals as goal

pub take-answer-requires-clause-left : goal.take-answer-requires-clause-left
take-answer-requires-clause-left c = none_by 2 c.args.queue.now c.requires.serves.others

pub told_taken-requires-clause-out : goal.told_taken-requires-clause-out
told_taken-requires-clause-out c = take_hands_out c.args.cells.now c.args.id.0 c.args.queue.now c.take-answer.new.self c.requires.serves.is c.args.seen _ _ c.take-answer.result c.take-answer.ensures

pub returns-clause-keeps : goal.returns-clause-keeps
returns-clause-keeps c = take_keeps c.args.cells.now c.args.id.0 c.args.queue.now c.take-answer.new.self c.requires.serves.is c.args.seen _ _ c.take-answer.result c.take-answer.ensures
