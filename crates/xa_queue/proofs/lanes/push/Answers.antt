use Rattle.std.proofs.Common.{◌∷◌, ◌++◌, [], List}
use Rattle.xa_queue.specs.declared.entry.Aged.{Aged}
use Rattle.xa_queue.proofs.Written.{lane-set, lane-same}
use Rattle.xa_queue.proofs.lanes.push.Goals as goal

pub returns-in-Ok-clause-pushed : goal.returns-in-Ok-clause-pushed
returns-in-Ok-clause-pushed g c =
    lane-set c.args.lanes.now.items c.args.lane c.index_mut-lane.result.now c.push_back.new.self (λ (l : List (Aged g.row.C.Denot)). l ++ c.args.aged ∷ []) c.requires c.index_mut-lane.ensures.value c.in-Ok.ensures.items

pub returns-in-Err-clause-kept : goal.returns-in-Err-clause-kept
returns-in-Err-clause-kept g c =
    lane-same c.args.lanes.now.items c.args.lane c.index_mut-lane.result.now c.push_back.new.self c.requires c.index_mut-lane.ensures.value c.in-Err.ensures.items
