use Rattle.std.proofs.Common.{◌≡◌, map, take}
use Rattle.std.specs.List.{flat_map}
use Rattle.xa_types.specs.Rows.{changes_of}
use Rattle.xa_machine.specs.Shown.{change_of}
use Rattle.xa_machine.proofs.opening.booting.Given as goal

abbrev pub invariant-loop-service : goal.invariant-loop-service
invariant-loop-service l = map change_of l.changes.items ≡ flat_map (changes_of l.setup) (take l.service-index l.setup.services)
