use Rattle.std.proofs.Common.{refl}
use Rattle.xa_machine.proofs.Tells.{lacks_row}
use Rattle.xa_machine.proofs.telling.shows.Goals as goal

pub returns-in-NoRow : goal.returns-in-NoRow
returns-in-NoRow c = rw c.in-NoRow.is (λ h. lacks_row c.args.queue.0 c.args.rows.now, λ h. refl)
