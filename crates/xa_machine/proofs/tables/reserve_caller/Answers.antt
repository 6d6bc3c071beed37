use Rattle.xa_events.specs.Board.{boot}
use Rattle.xa_events.specs.Views.{caller_view}
use Rattle.xa_machine.specs.Tables.{CallerShows, no_caller}
use Rattle.xa_machine.proofs.Noting.{row_same, same_caller}
use Rattle.xa_machine.proofs.tables.reserve_caller.Goals as goal

pub returns-clause-shows : goal.returns-clause-shows
returns-clause-shows c = λ setup clients past was.
    row_same (CallerShows (boot setup)) (λ k. caller_view clients k past) no_caller c.args.rows.now.items c.args.worker c.index_mut.result.now c.reserve.new.self c.requires c.index_mut.ensures.value
    (λ view shows. same_caller (boot setup) c.index_mut.result.now c.reserve.new.self view c.reserve.ensures.same shows) was
