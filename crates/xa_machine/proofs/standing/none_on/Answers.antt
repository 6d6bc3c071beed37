use Rattle.std.proofs.Common.{sym, ◌∙◌, ap, not}
use Rattle.std.proofs.lemmas.Bool.{not-true}
use Rattle.xa_machine.proofs.Boards.{none_found, found_none}
use Rattle.xa_machine.proofs.standing.none_on.Goals as goal

pub returns : goal.returns
returns c = (
  λ h. none_found c.args.queue.0 c.args.rows.now (sym c.has_on.ensures ∙ not-true c.has_on.result h),
  λ h. ap not (c.has_on.ensures ∙ found_none c.args.queue.0 c.args.rows.now h),
)
