use Rattle.std.proofs.Common.{reverse, take}
use Rattle.xa_text.specs.Telling.{AreTold}
use Rattle.xa_text.proofs.transcribing.all_told.Given as goal

abbrev pub invariant-loop-event : goal.invariant-loop-event
invariant-loop-event l = AreTold l.names (reverse (take l.event-index l.history)) l.told.items
