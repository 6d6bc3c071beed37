use Rattle.std.proofs.Common.{List, ℕ, sym, subst}
use Rattle.xa_program.specs.Progress.{IsWritten}
use Rattle.xa_program.proofs.Pieces.{joined}
use Rattle.xa_program.proofs.telling.print.Goals as goal

pub returns-in-Ok-put_all : goal.returns-in-Ok-put_all
returns-in-Ok-put_all g c =
    let written = subst (λ (pieces : List (List ℕ)). IsWritten c.args.form.now c.args.clients.now c.args.history.now (joined pieces)) (sym c.as_slice.ensures.value) c.in-Ok.ensures in
    ((joined c.as_slice.result.now, written, c.in-Ok-put_all.ensures.whole), c.in-Ok-put_all.ensures.quiet)
