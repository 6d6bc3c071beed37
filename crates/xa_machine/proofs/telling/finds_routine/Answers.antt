use Rattle.std.proofs.Common.{◌∙◌, sym}
use Rattle.xa_machine.proofs.Tells.{routine_found, found_routine}
use Rattle.xa_machine.proofs.telling.finds_routine.Goals as goal

pub returns : goal.returns
returns c = (
  λ h. routine_found c.args.routine.now c.args.queue.0 c.args.rows.now (sym c.has_routine.ensures ∙ h),
  λ h. c.has_routine.ensures ∙ found_routine c.args.routine.now c.args.queue.0 c.args.rows.now h.0 h.1,
)
