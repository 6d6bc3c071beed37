use Rattle.xa_domain.proofs.Working.{is_closer}
use Rattle.xa_domain.proofs.crew.clients_then_closing.Goals as goal

pub close_behind-requires-clause-closer : goal.close_behind-requires-clause-closer
close_behind-requires-clause-closer g c = is_closer c.args.shared.now.monitor.domain.now c.args.side.now.closer c.requires.closer

pub close_behind-requires-clause-shows : goal.close_behind-requires-clause-shows
close_behind-requires-clause-shows g c = λ whole on. (c.requires.closer.known whole on.sound on.board, c.requires.closer.shows whole on.sound on.board)
