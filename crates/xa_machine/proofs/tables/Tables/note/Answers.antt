use Rattle.std.proofs.Common.{refl}
use Rattle.xa_machine.proofs.Noting.{tables_more}
use Rattle.xa_machine.proofs.tables.Tables.note.Goals as goal

pub returns : goal.returns
returns c = λ setup past place takes accepts next was.
    tables_more setup c.args.clients c.args.event.now past c.args.self.now _ was c.note_server.ensures.len c.note_home.ensures.len c.note_caller.ensures.len
    (c.note_server.ensures.shows c.args.clients past place.server was.servers) (c.note_home.ensures.shows setup past place.queue takes was.queues) (c.note_caller.ensures.shows setup past place.worker accepts was.callers)
    (c.note_held.ensures setup c.args.clients c.args.event.now past place.queue place.worker (rw c.deref.ensures.value (c.note_home.ensures.shows setup past place.queue takes was.queues)) was.logged) (c.note_board.ensures past was.changed) (c.note_version.ensures setup c.args.event.now past next was.versions) refl c.note_tick.ensures c.clock_after-self.ensures refl refl refl
