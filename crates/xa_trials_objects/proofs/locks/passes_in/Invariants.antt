use Rattle.std.proofs.Common.{◌≡◌, ◌+◌, ◌≤◌, length, vec_len, vec_capacity, IsSomeAnd}
use Rattle.std.specs.List.{All}
use Rattle.xa_lock.specs.Known.{IsPassOf}
use Rattle.xa_trials_objects.proofs.locks.passes_in.Given as goal

-- the passes so far, and the places that are left
abbrev pub invariant-loop-place : goal.invariant-loop-place
invariant-loop-place l = record {
  places : All (λ place. IsSomeAnd place (IsPassOf l.lock)) l.places.items;
  passes : All (IsPassOf l.lock) l.passes.items;
  count : length l.passes.items + length l.places.items ≡ length l.fn.places.items;
  room : length l.fn.places.items ≤ vec_capacity l.passes;
}

abbrev pub decreases-loop-place : goal.decreases-loop-place
decreases-loop-place l = vec_len l.places
