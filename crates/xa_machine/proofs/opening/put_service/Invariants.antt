use Rattle.std.proofs.Common.{◌≡◌, ◌++◌, map, take}
use Rattle.xa_types.specs.Rows.{Put}
use Rattle.xa_types.specs.Setup.{queue_named}
use Rattle.xa_machine.specs.Shown.{change_of}
use Rattle.xa_machine.proofs.opening.put_service.Given as goal

abbrev pub invariant-loop-name : goal.invariant-loop-name
invariant-loop-name l = map change_of l.changes.items ≡ map change_of l.initial.changes.items ++ map (λ name. Put l.service.name (queue_named l.setup name) l.service.routine) (take l.name-index l.service.queues)
