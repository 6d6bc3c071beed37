use Rattle.xa_machine.proofs.Noting.{caller_rows}
use Rattle.xa_machine.proofs.tables.note_caller.Goals as goal

pub returns-clause-shows : goal.returns-clause-shows
returns-clause-shows c = λ setup past is counts was.
    caller_rows setup c.args.clients c.args.worker c.args.event.now past c.args.rows.now.items c.index_mut.result.now c.note.new.self c.requires.within c.index_mut.ensures.value c.note.ensures is counts was
