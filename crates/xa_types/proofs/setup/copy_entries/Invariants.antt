-- Those so far were copied.
use Rattle.std.proofs.Common.{◌≡◌, ◌≤◌, length, take}
use Rattle.std.specs.Prelude.{vec_capacity}
use Rattle.xa_types.proofs.setup.copy_entries.Given as goal

abbrev pub invariant-loop-entry : goal.invariant-loop-entry
invariant-loop-entry t l = (l.copies.items ≡ take l.entry-index l.entries) × (length l.entries ≤ vec_capacity l.copies)
