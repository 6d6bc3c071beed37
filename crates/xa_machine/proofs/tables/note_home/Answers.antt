use Rattle.std.proofs.Common.{◌∙◌}
use Rattle.xa_machine.proofs.Noting.{queues_idle}
use Rattle.xa_machine.proofs.tables.note_home.Goals as goal

pub returns-in_default-clause-shows : goal.returns-in_default-clause-shows
returns-in_default-clause-shows c = λ setup past is takes was. queues_idle setup c.args.event.now past c.args.rows.now.items (is ∙ c.in_default.is) was
