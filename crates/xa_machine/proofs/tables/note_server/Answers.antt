use Rattle.xa_machine.proofs.Noting.{server_rows}
use Rattle.xa_machine.proofs.tables.note_server.Goals as goal

pub returns-clause-shows : goal.returns-clause-shows
returns-clause-shows c = λ clients past is was.
    rw c.from.ensures (server_rows clients c.args.server c.args.event.now past c.args.rows.now.items c.index_mut.result.now c.note.new.self c.requires.within (rw c.from.ensures at c.index_mut.ensures.value) c.note.ensures is was)
