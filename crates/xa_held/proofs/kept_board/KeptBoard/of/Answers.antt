use Rattle.xa_held.proofs.Climbing.{sound_new}
use Rattle.xa_held.proofs.kept_board.KeptBoard.of.Goals as goal

pub invariant_of-result : goal.invariant_of-result
invariant_of-result c = sound_new c.of.result.value c.args.board c.new.result.items c.new.ensures c.requires.entries c.requires.first c.version-version.ensures.board
