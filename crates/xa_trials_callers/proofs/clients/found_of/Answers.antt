use Rattle.std.proofs.Common.{◌≡◌, if◌then◌else◌, ◌∷◌, ◌++◌, [], sym, ◌∙◌, ap}
use Rattle.xa_types.specs.declared.row.Row.{Row}
use Rattle.xa_types.specs.Rows.{row_for}
use Rattle.xa_trials_objects.proofs.Seats.{pushed}
use Rattle.xa_trials_callers.proofs.Calling.{own_row}
use Rattle.xa_trials_callers.proofs.clients.found_of.Goals as goal

pub loop-queue-preserved : goal.loop-queue-preserved
loop-queue-preserved c =
    let rows = c.loop-queue.rows.items in
    pushed (λ (row : Row). row ≡ row_for c.args.setup.now c.args.service row.queue.0 row.routine) rows c.push.new.self.items c.row_for.result
    (c.push.ensures.items ∙ ap (λ b. if b then rows ++ c.row_for.result ∷ [] else rows) (sym c.in_ok-ok.ensures.variant)) c.loop-queue.invariant
    (own_row c.args.setup.now c.args.service _ c.args.routine c.row_for.result c.row_for.ensures)
