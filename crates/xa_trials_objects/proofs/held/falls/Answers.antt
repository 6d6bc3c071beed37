use Rattle.std.proofs.Common.{◌≡◌, true, rules, ap, ◌∙◌, Ok}
use Rattle.xa_trials_objects.proofs.Working.{none_by, gone_is, all_left, went_down}
use Rattle.xa_trials_objects.proofs.held.falls.Goals as goal

pub gone-requires-clause-left : goal.gone-requires-clause-left
gone-requires-clause-left c = none_by 2 c.args.queue.now c.requires.others

pub returns-clause-down : goal.returns-clause-down
returns-clause-down c so =
    let cells = c.args.cells.now in
    let n = c.args.id.0 in
    let left = c.gone.new.self in
    let last : c.in-Ok.left.last ≡ true = search rules in
    let deserted = all_left cells n c.args.queue.now left c.requires.is _ _ c.gone.result c.in-Ok.left c.in-Ok.is last c.stamp-at.ensures.sound c.gone.ensures in
    went_down cells n left c.down.new.self (gone_is cells n c.args.queue.now left c.requires.is _ _ c.gone.result c.gone.ensures) _ _ c.down.result c.in-Ok-Some.field-0-0 (c.in-Ok-Some.is ∙ ap Ok c.in-Ok-Some.field-0-is) deserted c.stamp-end.ensures.sound c.down.ensures
