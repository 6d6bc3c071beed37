use Rattle.std.proofs.Common.{[], ◌∙◌, ap}
use Rattle.xa_types.specs.declared.row.Row.{Row}
use Rattle.xa_machine.proofs.Reading.{own_is}
use Rattle.xa_machine.proofs.sending.own_priority.Goals as goal

pub returns : goal.returns
returns c = ap (λ (r : Row). r.priority) c.row_for.ensures ∙ own_is c.args.setup.now c.args.service 0 c.args.service []
