use Rattle.xa_events.specs.Views.{queue_view}
use Rattle.xa_machine.specs.Tables.{QueueShows, no_queue}
use Rattle.xa_machine.proofs.Noting.{row_same, same_queue}
use Rattle.xa_machine.proofs.tables.reserve_queue.Goals as goal

pub returns-clause-shows : goal.returns-clause-shows
returns-clause-shows c = λ setup past was. rw c.from.ensures
    (row_same QueueShows (λ k. queue_view setup k past) no_queue c.args.rows.now.items c.args.queue c.index_mut.result.now c.reserve.new.self c.requires (rw c.from.ensures at c.index_mut.ensures.value)
    (λ view shows. same_queue c.index_mut.result.now c.reserve.new.self view c.reserve.ensures.same shows) was)
