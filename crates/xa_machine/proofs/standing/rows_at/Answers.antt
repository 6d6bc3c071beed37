use Rattle.std.proofs.Common.{◌∙◌}
use Rattle.xa_machine.proofs.Boards.{rows_read}
use Rattle.xa_machine.proofs.standing.rows_at.Goals as goal

pub returns : goal.returns
returns c = λ setup past shows.
    c.deref.ensures.value ∙ rows_read setup past c.args.versions.now c.args.version c.min-place.result c.index-versions-place.result c.requires shows c.min-place.ensures
