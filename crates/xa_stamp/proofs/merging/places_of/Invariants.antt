use Rattle.std.proofs.Common.{◌≡◌, ◌++◌, drop}
use Rattle.xa_stamp.specs.Merge.{places_from}
use Rattle.xa_stamp.proofs.merging.places_of.Given as goal

abbrev pub invariant-loop-number : goal.invariant-loop-number
invariant-loop-number l = l.places.items ++ places_from l.number (drop l.number l.homes) ≡ places_from 0 l.homes
