use Rattle.xa_machine.proofs.Noting.{queue_rows}
use Rattle.xa_machine.proofs.tables.note_queue.Goals as goal

pub returns-clause-shows : goal.returns-clause-shows
returns-clause-shows c = λ setup past is counts was.
    rw c.from.ensures (queue_rows setup c.args.queue c.args.event.now past c.args.rows.now.items c.index_mut.result.now c.note.new.self c.requires.within (rw c.from.ensures at c.index_mut.ensures.value) c.note.ensures is counts was)
