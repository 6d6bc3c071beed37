use Rattle.std.proofs.Common.{◌≡◌, length, vec_capacity}
use Rattle.xa_boot.specs.Staffing.{AreTaken}
use Rattle.xa_boot.proofs.staff.last_passes.Given as goal

abbrev pub invariant-loop-passes : goal.invariant-loop-passes
invariant-loop-passes l = record { taken : AreTaken l.passes-index l.initial.passes-items l.passes-items l.room.items; room : vec_capacity l.room ≡ length l.initial.passes-items }
