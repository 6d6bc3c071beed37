use Rattle.std.proofs.Common.{ℕ, sym, subst}
use Rattle.xa_queue.specs.Changes.{IsEntry}
use Rattle.xa_held.specs.declared.kept_queue.Setting.{Setting}
use Rattle.xa_held.specs.Kept.{IsRight, Becomes}
use Rattle.xa_trials_objects.proofs.Working.{put_keeps, fits_back}
use Rattle.xa_trials_objects.proofs.held_steps.put.Goals as goal

pub put-requires-clause-event : goal.put-requires-clause-event
put-requires-clause-event c = subst (λ (s : Setting ℕ). IsEntry s.id c.args.entry c.event_of-event.result) (sym c.requires.is) c.event_of-event.ensures.entry

pub put-requires-clause-right : goal.put-requires-clause-right
put-requires-clause-right c = subst (λ (s : Setting ℕ). IsRight s.cells c.args.entry) (sym c.requires.is) c.requires.fit.right

pub returns-clause-keeps : goal.returns-clause-keeps
returns-clause-keeps c = put_keeps c.args.cells.now c.args.id.0 c.args.queue.now c.put.new.self c.requires.is c.args.seen _ c.event_of-event.result c.args.entry c.put.result c.event_of-event.ensures.left c.put.ensures

pub returns-clause-back : goal.returns-clause-back
returns-clause-back c = fits_back (Becomes c.args.queue.now c.put.new.self) c.args.cells.now _ _ _ c.args.entry c.put.result c.put.ensures c.requires.fit
