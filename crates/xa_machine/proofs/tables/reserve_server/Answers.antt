use Rattle.xa_events.specs.Views.{server_view}
use Rattle.xa_machine.specs.Tables.{ServerShows, no_server}
use Rattle.xa_machine.proofs.Noting.{row_same, same_server}
use Rattle.xa_machine.proofs.tables.reserve_server.Goals as goal

pub returns-clause-shows : goal.returns-clause-shows
returns-clause-shows c = λ past was. rw c.from.ensures
    (row_same ServerShows (λ k. server_view k past) no_server c.args.rows.now.items c.args.server c.index_mut.result.now c.reserve.new.self c.requires (rw c.from.ensures at c.index_mut.ensures.value)
    (λ view shows. same_server c.index_mut.result.now c.reserve.new.self view c.reserve.ensures.same shows) was)
