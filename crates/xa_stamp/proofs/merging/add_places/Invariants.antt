use Rattle.std.proofs.Common.{◌≡◌, ◌++◌, drop}
use Rattle.xa_stamp.specs.Merge.{places_in}
use Rattle.xa_stamp.proofs.merging.add_places.Given as goal

abbrev pub invariant-loop-index : goal.invariant-loop-index
invariant-loop-index l = l.places.items ++ places_in l.home l.index (drop l.index l.entries) ≡ l.initial.places.items ++ places_in l.home 0 l.entries
