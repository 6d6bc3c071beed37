use Rattle.std.proofs.Common.{rules}
use Rattle.xa_link.proofs.Pieces.{gave_more}
use Rattle.xa_link.proofs.memory.source.MemorySource.copy.Goals as goal

pub returns-clause-gave : goal.returns-clause-gave
returns-clause-gave c = gave_more c.args.self.now.at c.give-n.result c.args.self.now.octets c.give-n.new.into (search (rules, c.give-n.ensures, c.slice.ensures))
