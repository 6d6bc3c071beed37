use Rattle.std.proofs.Common.{drop}
use Rattle.xa_queue.proofs.Written.{lane-set}
use Rattle.xa_queue.proofs.lanes.pop.Goals as goal

pub returns-clause-rest : goal.returns-clause-rest
returns-clause-rest g c = lane-set c.args.lanes.now.items c.args.lane c.index_mut.result.now c.pop_first.new.lane (drop 1) c.requires.lane c.index_mut.ensures.value c.pop_first.ensures.rest
