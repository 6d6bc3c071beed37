use Rattle.std.proofs.Common.{◌∙◌, sym, refl}
use Rattle.xa_machine.proofs.Logged.{log_put, log_same}
use Rattle.xa_machine.proofs.holding.note_held.Goals as goal

pub returns-in-Some : goal.returns-in-Some
returns-in-Some c = λ setup clients e past is by shows was.
    rw c.push_reserved.ensures.items (log_put setup clients c.in-Some.queue e past c.args.log.now.items _ c.args.rows.now c.waiting_at.ensures (rw c.in-Some.is at c.requires.within) refl (sym by) (is ∙ c.in-Some.is) shows was)

pub returns-in_default : goal.returns-in_default
returns-in_default c = λ setup clients e past is by shows was. log_same setup clients e past c.args.log.now.items (is ∙ c.in_default.is) was
